-- Worked rows of the headline: a drive where A holds Exclusive Access and B isn't registered; both had contact. A writes a block, which is
-- allowed; B's WRITE(6) is denied, its REGISTER with a wrong key breaks the first rule on keys, its READ RESERVATION shows the reservation.
-- Each is decided so, and isn't where one thing is another.
use Rattle.std.specs.Prelude.{◌≡◌, ℕ, true, false, List, [], ◌∷◌, ◌++◌, length, replicate, Some, None}
use Rattle.std.specs.Global.{Vec}
use Rattle.arrayvec.specs.ArrayVec.{ArrayVec}
use Rattle.scsi_cdb.specs.declared.classes.Class.TheVariants as class
use Rattle.permit_tables.specs.declared.key_rule.KeyRule.TheVariants.{K1, K2}
use Rattle.permit_tables.specs.declared.res_type.ResType.TheVariants.{Ea}
use Rattle.permit_tables.specs.declared.role.Role.{Role}
use Rattle.permit_tables.specs.declared.role.Role.TheVariants.{Holder, Other}
use Rattle.scsi_cdb.specs.declared.action.InServiceAction.TheVariants.{ReadReservation}
use Rattle.scsi_cdb.specs.declared.profile.Profile.TheVariants.{Spec}
use Rattle.scsi_cdb.specs.declared.request.Request.TheVariants as request
use Rattle.scsi_nexus.specs.declared.nexus.Nexus.{Nexus}
use Rattle.scsi_sense.specs.declared.status.Status.TheVariants.{Good, ReservationConflict}
use Rattle.unit_attention.specs.declared.kind.Kind.TheVariants.{NexusLoss}
use Rattle.pr_core.specs.State.{State, power_on}
use Rattle.tape_medium.specs.Object.{Object, Block}
use Rattle.tape_medium.specs.declared.volume.VolumeTag.{VolumeTag}
use Rattle.audit_log.specs.declared.act.Act.TheVariants as act
use Rattle.audit_log.specs.declared.record.Record.{Record}
use Rattle.audit_log.specs.declared.stage.Stage.TheVariants as stage
use Rattle.device_server.specs.View.{DeviceView, Drive}
use Rattle.judgement.specs.declared.command.Command.{Command}
use Rattle.judgement.specs.declared.command.Command.TheVariants as command
use Rattle.judgement.specs.declared.reply.Reply.{Reply}
use Rattle.judgement.specs.Replies.{busy}
use Rattle.judgement.specs.UnitStateView.{UnitStateView}
use Rattle.logical_unit.specs.UnitView.{UnitView}
use Rattle.target_core.specs.declared.event.Event.{Event}
use Rattle.target_core.specs.declared.event.Event.TheVariants as event
use Rattle.target_laws.specs.Headline.{IsAsked, IsRefused, IsLetIn, IsDecidedBy, IsServed}
use Rattle.target_laws.specs.Rows.{a, b, test_unit_ready, write, reserve_out, parameters, read_reservation, changer, drive, held, wrong_key, with_slots, good_with}

-- the bytes of A's block
abbrev pub block : List ℕ
block = 7 ∷ 8 ∷ []

-- the drive with these objects on its tape, at their end, and these records
abbrev pub device_with : VolumeTag → List Object → DeviceView
device_with tag objects = Drive (record {
  bay = Some (record { tag = tag; protected = false; tape = record { objects = objects; position = length objects; capacity = 1000; unchanged = 0 } });
  loaded = true;
  block_length = 0;
  hosts = None;
})

abbrev pub state : UnitStateView
state = record { lun = 1; units = 2; profile = Spec; reservations = held; slots = (a, []) ∷ (b, []) ∷ []; preventers = [] }

abbrev pub unit : VolumeTag → List Object → List Record → UnitView
unit tag objects records = record { device = device_with tag objects; state = state; base = record { state = state; last = 0 }; records = records }

-- the records of the four commands: of B's WRITE(6) by the role in its cell
abbrev pub entry_allowed : Record
entry_allowed = record {
  number = 1;
  nexus = Some a;
  act = act.Command class.Write;
  stage = stage.Device;
  cell = Some (record { class = class.Write; res_type = Ea; role = Holder });
  rule = None;
  status = Good;
  sense = None;
  told = None;
}

abbrev pub entry_denied : Role → Record
entry_denied role = record {
  number = 2;
  nexus = Some b;
  act = act.Command class.Write;
  stage = stage.ReservationCheck;
  cell = Some (record { class = class.Write; res_type = Ea; role = role });
  rule = None;
  status = ReservationConflict;
  sense = None;
  told = None;
}

abbrev pub entry_broken : Record
entry_broken = record {
  number = 3;
  nexus = Some b;
  act = act.ReserveOut wrong_key;
  stage = stage.ReservationCheck;
  cell = Some (record { class = class.Register; res_type = Ea; role = Other });
  rule = Some K1;
  status = ReservationConflict;
  sense = None;
  told = None;
}

abbrev pub entry_read : Record
entry_read = record {
  number = 4;
  nexus = Some b;
  act = act.Command class.PersistentReserveIn;
  stage = stage.Device;
  cell = Some (record { class = class.PersistentReserveIn; res_type = Ea; role = Other });
  rule = None;
  status = Good;
  sense = None;
  told = None;
}

-- the drive at first, and behind each of the four commands
abbrev pub at_first : VolumeTag → UnitView
at_first tag = unit tag [] []

abbrev pub at_1 : VolumeTag → UnitView
at_1 tag = unit tag (Block block ∷ []) (entry_allowed ∷ [])

abbrev pub at_2 : VolumeTag → UnitView
at_2 tag = unit tag (Block block ∷ []) (entry_allowed ∷ entry_denied Other ∷ [])

abbrev pub at_3 : VolumeTag → UnitView
at_3 tag = unit tag (Block block ∷ []) (entry_allowed ∷ entry_denied Other ∷ entry_broken ∷ [])

abbrev pub at_4 : VolumeTag → UnitView
at_4 tag = unit tag (Block block ∷ []) (entry_allowed ∷ entry_denied Other ∷ entry_broken ∷ entry_read ∷ [])

-- beside a changer
abbrev pub beside : UnitView → List UnitView
beside d = changer ∷ d ∷ []

-- the replies: RESERVATION CONFLICT is 18h alone, and READ RESERVATION has the generation, the holder's key and the type
abbrev pub conflict_with : (number : ℕ) → Reply
conflict_with number = record { status = ReservationConflict; sense = None; payload = []; number = number }

abbrev pub shown_with : (generation key : ℕ) → Reply
shown_with generation key = record {
  status = Good;
  sense = None;
  payload = 0 ∷ 0 ∷ 0 ∷ generation ∷ 0 ∷ 0 ∷ 0 ∷ 0x10 ∷ replicate 7 0 ++ key ∷ replicate 5 0 ++ 3 ∷ 0 ∷ 0 ∷ [];
  number = 4;
}

-- the commands that are spelled
abbrev pub writes : Command
writes = command.Device (request.Write false 2)

abbrev pub registers : Command
registers = command.ReserveOut wrong_key

abbrev pub reads : Command
reads = command.ReserveIn ReadReservation 255

-- THE RUN of these four is one that the headline speaks of, at each of them. A CDB and data, wherever they lie
pub record Bytes : Type 0 where
  pub cdb : ArrayVec ℕ
  pub bytes : Vec ℕ

pub record Spells (x : Bytes) (cdb bytes : List ℕ) : Type 0 where
  pub cdb_is : x.cdb.items ≡ cdb
  pub bytes_are : x.bytes.items ≡ bytes

abbrev pub sent_by : Nexus → Bytes → Event
sent_by n x = event.Command n 1 x.cdb x.bytes

pub record AreAsked (tag : VolumeTag) (w x y z : Bytes) : Type 0 where
  pub allowed : IsAsked (beside (at_first tag)) (beside (at_4 tag)) [] (sent_by b x ∷ sent_by b y ∷ sent_by b z ∷ []) [] (conflict_with 2 ∷ conflict_with 3 ∷ shown_with 1 1 ∷ []) a 1 w.cdb w.bytes (good_with 1) (at_first tag)
  pub denied : IsAsked (beside (at_first tag)) (beside (at_4 tag)) (sent_by a w ∷ []) (sent_by b y ∷ sent_by b z ∷ []) (good_with 1 ∷ []) (conflict_with 3 ∷ shown_with 1 1 ∷ []) b 1 x.cdb x.bytes (conflict_with 2) (at_first tag)
  pub broken : IsAsked (beside (at_first tag)) (beside (at_4 tag)) (sent_by a w ∷ sent_by b x ∷ []) (sent_by b z ∷ []) (good_with 1 ∷ conflict_with 2 ∷ []) (shown_with 1 1 ∷ []) b 1 y.cdb y.bytes (conflict_with 3) (at_first tag)
  pub read : IsAsked (beside (at_first tag)) (beside (at_4 tag)) (sent_by a w ∷ sent_by b x ∷ sent_by b y ∷ []) [] (good_with 1 ∷ conflict_with 2 ∷ conflict_with 3 ∷ []) [] b 1 z.cdb z.bytes (shown_with 1 1) (at_first tag)

abbrev pub FourAreAsked : Type 0
FourAreAsked = (tag : VolumeTag) (w x y z : Bytes) → Spells w write block → Spells x write block → Spells y (reserve_out 0 0) (parameters 5 2) → Spells z read_reservation [] → AreAsked tag w x y z

-- HOW EACH IS DECIDED
pub record AreDecided (tag : VolumeTag) : Type 0 where
  -- A's WRITE(6) is let in, and carried out
  pub allowed : IsServed held (beside (at_first tag)) (beside (at_1 tag)) 1 a write block (good_with 1)
  pub allowed_by : IsDecidedBy held (beside (at_first tag)) (beside (at_1 tag)) 1 (at_first tag) (at_1 tag) a write block writes (good_with 1)
  pub let_in : IsLetIn held (beside (at_first tag)) (beside (at_1 tag)) 1 (at_first tag) (at_1 tag) a write block writes (good_with 1)
  -- B's is refused by its cell
  pub denied : IsServed held (beside (at_1 tag)) (beside (at_2 tag)) 1 b write block (conflict_with 2)
  pub denied_by : IsDecidedBy held (beside (at_1 tag)) (beside (at_2 tag)) 1 (at_1 tag) (at_2 tag) b write block writes (conflict_with 2)
  pub refused : IsRefused held (at_1 tag) (at_2 tag) b writes (conflict_with 2)
  -- its REGISTER by the first rule on keys
  pub broken : IsServed held (beside (at_2 tag)) (beside (at_3 tag)) 1 b (reserve_out 0 0) (parameters 5 2) (conflict_with 3)
  pub broken_by : IsDecidedBy held (beside (at_2 tag)) (beside (at_3 tag)) 1 (at_2 tag) (at_3 tag) b (reserve_out 0 0) (parameters 5 2) registers (conflict_with 3)
  pub barred : IsRefused held (at_2 tag) (at_3 tag) b registers (conflict_with 3)
  -- and its READ RESERVATION is let in, and shows what stands
  pub read : IsServed held (beside (at_3 tag)) (beside (at_4 tag)) 1 b read_reservation [] (shown_with 1 1)
  pub read_by : IsDecidedBy held (beside (at_3 tag)) (beside (at_4 tag)) 1 (at_3 tag) (at_4 tag) b read_reservation [] reads (shown_with 1 1)
  pub shows : IsLetIn held (beside (at_3 tag)) (beside (at_4 tag)) 1 (at_3 tag) (at_4 tag) b read_reservation [] reads (shown_with 1 1)

-- AND WHAT IS NOT SO. B's WRITE(6) isn't refused where it leaves something else
abbrev pub refused_as : VolumeTag → (left : UnitView) → Reply → Type 0
refused_as tag left r = IsRefused held (at_1 tag) left b writes r

-- A key of B's
abbrev pub registered : State
registered = record held { keys = (a, 1) ∷ (b, 2) ∷ [] }

pub record NotRefused (tag : VolumeTag) : Type 0 where
  -- its reply: another status, data, another number
  pub status : ¬ refused_as tag (at_2 tag) (good_with 2)
  pub payload : ¬ refused_as tag (at_2 tag) (record (conflict_with 2) { payload = 0 ∷ [] })
  pub number : ¬ refused_as tag (at_2 tag) (conflict_with 0)
  -- the device is written on
  pub device : ¬ refused_as tag (record (at_2 tag) { device = device_with tag (Block block ∷ Block block ∷ []) }) (conflict_with 2)
  -- a registration, what waits, and who prevents removal
  pub registration : ¬ refused_as tag (record (at_2 tag) { state = record state { reservations = registered } }) (conflict_with 2)
  pub attention : ¬ refused_as tag (record (at_2 tag) { state = record state { slots = (a, []) ∷ (b, NexusLoss ∷ []) ∷ [] } }) (conflict_with 2)
  pub prevention : ¬ refused_as tag (record (at_2 tag) { state = record state { preventers = b ∷ [] } }) (conflict_with 2)
  -- the base
  pub base : ¬ refused_as tag (record (at_2 tag) { base = record { state = state; last = 1 } }) (conflict_with 2)
  -- the records: another cell in the entry, no sender, no record, a second one, and one that is gone
  pub cell : ¬ refused_as tag (unit tag (Block block ∷ []) (entry_allowed ∷ entry_denied Holder ∷ [])) (conflict_with 2)
  pub sender : ¬ refused_as tag (unit tag (Block block ∷ []) (entry_allowed ∷ record (entry_denied Other) { nexus = None } ∷ [])) (conflict_with 2)
  pub none : ¬ refused_as tag (at_1 tag) (conflict_with 2)
  pub second : ¬ refused_as tag (unit tag (Block block ∷ []) (entry_allowed ∷ entry_denied Other ∷ entry_denied Other ∷ [])) (conflict_with 2)
  pub gone : ¬ refused_as tag (unit tag (Block block ∷ []) (entry_denied Other ∷ [])) (conflict_with 2)
  -- nor is its REGISTER where the record names no rule, or another
  pub no_rule : ¬ IsRefused held (at_2 tag) (unit tag (Block block ∷ []) (entry_allowed ∷ entry_denied Other ∷ record entry_broken { rule = None } ∷ [])) b registers (conflict_with 3)
  pub other_rule : ¬ IsRefused held (at_2 tag) (unit tag (Block block ∷ []) (entry_allowed ∷ entry_denied Other ∷ record entry_broken { rule = Some K2 } ∷ [])) b registers (conflict_with 3)

-- a WRITE(6) of a nexus at the first drive, and one behind it, are decided so
abbrev pub decides_first : VolumeTag → (left : UnitView) → Reply → Type 0
decides_first tag left r = IsDecidedBy held (beside (at_first tag)) (beside left) 1 (at_first tag) left a write block writes r

abbrev pub decides_next : VolumeTag → (left : UnitView) → Reply → Type 0
decides_next tag left r = IsDecidedBy held (beside (at_1 tag)) (beside left) 1 (at_1 tag) left b write block writes r

pub record NotDecided (tag : VolumeTag) : Type 0 where
  -- A is refused, or its block isn't written
  pub allowed_refused : ¬ decides_first tag (at_1 tag) (conflict_with 1)
  pub allowed_unwritten : ¬ decides_first tag (unit tag [] (entry_allowed ∷ [])) (good_with 1)
  -- B is let in, or its record names another cell
  pub denied_let_in : ¬ decides_next tag (unit tag (Block block ∷ Block block ∷ []) (entry_allowed ∷ entry_denied Other ∷ [])) (good_with 2)
  pub denied_elsewhere : ¬ decides_next tag (unit tag (Block block ∷ []) (entry_allowed ∷ entry_denied Holder ∷ [])) (conflict_with 2)
  -- READ RESERVATION shows another key, or another generation than the history left
  pub other_key : ¬ IsLetIn held (beside (at_3 tag)) (beside (at_4 tag)) 1 (at_3 tag) (at_4 tag) b read_reservation [] reads (shown_with 1 2)
  pub other_history : ¬ IsLetIn (record held { generation = 2 }) (beside (at_3 tag)) (beside (at_4 tag)) 1 (at_3 tag) (at_4 tag) b read_reservation [] reads (shown_with 1 1)

pub record NotServed (tag : VolumeTag) : Type 0 where
  -- A's WRITE(6): by another history, at another unit too, or BUSY with something changed
  pub history : ¬ IsServed power_on (beside (at_first tag)) (beside (at_1 tag)) 1 a write block (good_with 1)
  pub others : ¬ IsServed held (beside (at_first tag)) (record changer { records = entry_allowed ∷ [] } ∷ at_1 tag ∷ []) 1 a write block (good_with 1)
  pub busy : ¬ IsServed held (beside (at_first tag)) (beside (at_1 tag)) 1 a write block busy
  -- B's: let in, and in conflict with another cell in the record
  pub let_in : ¬ IsServed held (beside (at_1 tag)) (beside (unit tag (Block block ∷ Block block ∷ []) (entry_allowed ∷ entry_denied Other ∷ []))) 1 b write block (good_with 2)
  pub cell : ¬ IsServed held (beside (at_1 tag)) (beside (unit tag (Block block ∷ []) (entry_allowed ∷ entry_denied Holder ∷ []))) 1 b write block (conflict_with 2)
  -- a first TEST UNIT READY, whatever it leaves: in conflict, since it is told of the power on, and anything but BUSY where all slots are used
  pub conflict : (left : UnitView) → ¬ IsServed power_on (beside (drive tag)) (beside left) 1 a test_unit_ready [] (conflict_with 1)
  pub full : (left : UnitView) → ¬ IsServed power_on (beside (with_slots 128)) (beside left) 1 a test_unit_ready [] (good_with 1)
