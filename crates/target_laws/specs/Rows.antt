-- Worked rows: a run of eight commands, from power on, in which A registers and reserves Exclusive Access, and then a command of B is denied,
-- one of A allowed, and one of B breaks a rule on keys; runs that must be answered BUSY; losses and resets; and units that make a target.
use Rattle.std.specs.Global.{Global}
use Rattle.std.specs.Prelude.{◌≡◌, ◌⊎◌, ℕ, zero, suc, true, false, List, [], ◌∷◌, ◌++◌, map, replicate, take, Some, None, Ok}
use Rattle.scsi_cdb.specs.declared.service_action.OutServiceAction.TheVariants as out
use Rattle.scsi_cdb.specs.declared.classes.Class.TheVariants as class
use Rattle.scsi_cdb.specs.declared.kind.Kind.TheVariants as kind
use Rattle.scsi_cdb.specs.declared.profile.Profile.TheVariants.{Spec}
use Rattle.scsi_cdb.specs.Kinds.{commands}
use Rattle.scsi_cdb.specs.declared.request.Request.TheVariants as request
use Rattle.scsi_nexus.specs.declared.nexus.Nexus.{Nexus}
use Rattle.scsi_sense.specs.declared.status.Status.TheVariants.{Good, CheckCondition, Busy, ReservationConflict}
use Rattle.unit_attention.specs.Queues.{Slots}
use Rattle.unit_attention.specs.declared.kind.Kind.TheVariants.{NexusLoss, BusDeviceReset}
use Rattle.permit_tables.specs.declared.res_type.ResType.TheVariants.{Ea}
use Rattle.permit_tables.specs.declared.res_type.ResType.TheVariants as restype
use Rattle.permit_tables.specs.declared.role.Role.TheVariants.{Holder, Registered, Other}
use Rattle.tape_medium.specs.Elements.{empty_elements}
use Rattle.tape_medium.specs.Tape.{blank}
use Rattle.tape_medium.specs.declared.volume.VolumeTag.{VolumeTag}
use Rattle.audit_log.specs.declared.record.Record.{Record}
use Rattle.audit_log.specs.declared.stage.Stage.TheVariants as stage
use Rattle.permit_tables.specs.declared.out_params.OutParams.{OutParams}
use Rattle.pr_core.specs.State.{State}
use Rattle.permit_tables.specs.declared.key_rule.KeyRule.TheVariants.{K1}
use Rattle.pr_core.specs.declared.verdict.Verdict.TheVariants.{Allowed, Denied, Rule}
use Rattle.device_server.specs.Drive.{empty_drive}
use Rattle.device_server.specs.HostChanger.{spec_changer}
use Rattle.device_server.specs.View.{Drive, Changer}
use Rattle.judgement.specs.declared.command.Command.TheVariants as command
use Rattle.judgement.specs.declared.reply.Reply.{Reply}
use Rattle.judgement.specs.Commands.{decoded_command}
use Rattle.judgement.specs.Readings.{verdict_of}
use Rattle.judgement.specs.UnitState.{has_room}
use Rattle.judgement.specs.Replies.{busy}
use Rattle.logical_unit.specs.Step.{made}
use Rattle.logical_unit.specs.UnitView.{UnitView}
use Rattle.target_core.specs.declared.event.Event.{Event}
use Rattle.target_core.specs.declared.event.Event.TheVariants as event
use Rattle.target_core.specs.declared.order.CoreFault.TheVariants.{Count, Order, Disagree}
use Rattle.target_core.specs.Faults.{fault_of}
use Rattle.target_core.specs.Run.{Runs}
use Rattle.target_laws.specs.Headline.{by_history}

abbrev pub a : Nexus
a = record { sas = 0x500000000000000A; port = 1 }

abbrev pub b : Nexus
b = record { sas = 0x500000000000000B; port = 1 }

-- what a command's event sends to the drive, which is unit 1: the sender, the bytes and the data
abbrev pub Sending : Type 0
Sending = Nexus × List ℕ × List ℕ

-- an event is that command to the drive
abbrev pub Sends : Event → Sending → Type 0
Sends (event.Command n lun cdb bytes) s = (n ≡ s.0) × (lun ≡ 1) × (cdb.items ≡ s.1) × (bytes.items ≡ s.2)
Sends e s = ⊥

abbrev pub AllSend : List Event → List Sending → Type 0
AllSend [] [] = Unit {0}
AllSend (e ∷ es) (s ∷ l) = Sends e s × AllSend es l
AllSend es l = ⊥

-- there are events that send these commands, wherever their data lie
pub record IsSent (l : List Sending) : Type 0 where
  pub events : List Event
  pub send : AllSend events l

abbrev pub test_unit_ready : List ℕ
test_unit_ready = replicate 6 0

-- WRITE(6) of two bytes
abbrev pub write : List ℕ
write = 0x0A ∷ 0 ∷ 0 ∷ 0 ∷ 2 ∷ 0 ∷ []

-- PERSISTENT RESERVE OUT, by service action and type, and its parameter list, by the reservation key and the service action's key
abbrev pub reserve_out : (action code : ℕ) → List ℕ
reserve_out action code = 0x5F ∷ action ∷ code ∷ 0 ∷ 0 ∷ 0 ∷ 0 ∷ 0 ∷ 0x18 ∷ 0 ∷ []

abbrev pub parameters : (rk sark : ℕ) → List ℕ
parameters rk sark = replicate 7 0 ++ rk ∷ replicate 7 0 ++ sark ∷ replicate 8 0

-- READ RESERVATION, cut at 255 bytes
abbrev pub read_reservation : List ℕ
read_reservation = 0x5E ∷ 1 ∷ 0 ∷ 0 ∷ 0 ∷ 0 ∷ 0 ∷ 0 ∷ 0xFF ∷ 0 ∷ []

-- what A and B send
abbrev pub sent : List Sending
sent =
    (a, test_unit_ready, [])
    ∷ (a, reserve_out 0 0, parameters 0 1)
    ∷ (a, reserve_out 1 3, parameters 1 0)
    ∷ (b, test_unit_ready, [])
    ∷ (b, write, 7 ∷ 8 ∷ [])
    ∷ (a, write, 7 ∷ 8 ∷ [])
    ∷ (b, reserve_out 0 0, parameters 5 2)
    ∷ (b, read_reservation, [])
    ∷ []

-- a changer, and a drive with an empty tape, at power on
abbrev pub changer : UnitView
changer = made (Changer (spec_changer (empty_elements 1 8 0))) 0 2 0

abbrev pub drive : VolumeTag → UnitView
drive tag = made (Drive (record { bay = Some (record { tag = tag; protected = false; tape = blank 1000 }); loaded = true; block_length = 0; hosts = None })) 1 2 0

abbrev pub units : VolumeTag → List UnitView
units tag = changer ∷ drive tag ∷ []

-- what A's accepted acts leave
abbrev pub held : State
held = record { keys = (a, 1) ∷ []; reservation = Some (Ea, a); generation = 1 }

-- B's REGISTER with a key that it hasn't
abbrev pub wrong_key : OutParams
wrong_key = record { rk = 5; sark = 2; dest = None; act = out.Register; scope_type = 0; unreg = false; defect = None; all_ports = false; listed = false; targets = record { items = [] } }

pub record IsWorked (tag : VolumeTag) (es : List Event) : Type 0 where
  pub replies : List Reply
  -- the drive in the end
  pub last : UnitView
  pub run : Runs (units tag) es replies (changer ∷ last ∷ [])
  -- the first command of each nexus is told of the power on
  pub statuses : map (λ (r : Reply). r.status) replies ≡ CheckCondition ∷ Good ∷ Good ∷ CheckCondition ∷ ReservationConflict ∷ Good ∷ ReservationConflict ∷ Good ∷ []
  -- by the history before B's WRITE(6), before A's, before B's REGISTER, and before B's READ RESERVATION
  pub before_write : by_history (drive tag) 1 (take 4 es) (take 4 replies) ≡ held
  pub before_own_write : by_history (drive tag) 1 (take 5 es) (take 5 replies) ≡ held
  pub before_register : by_history (drive tag) 1 (take 6 es) (take 6 replies) ≡ held
  pub before_read : by_history (drive tag) 1 (take 7 es) (take 7 replies) ≡ held
  -- they are denied, allowed, and barred by the first rule
  pub decodes_write : decoded_command (commands Spec kind.Drive) write (7 ∷ 8 ∷ []) ≡ Ok (command.Device (request.Write false 2))
  pub denied : verdict_of held b (command.Device (request.Write false 2)) ≡ Denied (record { class = class.Write; res_type = Ea; role = Other })
  pub allowed : verdict_of held a (command.Device (request.Write false 2)) ≡ Allowed
  pub decodes_register : decoded_command (commands Spec kind.Drive) (reserve_out 0 0) (parameters 5 2) ≡ Ok (command.ReserveOut wrong_key)
  pub broken : verdict_of held b (command.ReserveOut wrong_key) ≡ Rule K1
  -- as the records say: the stage, the cell, the rule
  pub stages : map (λ (e : Record). e.stage) last.records
      ≡ stage.ResetAttention ∷ stage.Device ∷ stage.Device ∷ stage.ResetAttention ∷ stage.ReservationCheck ∷ stage.Device ∷ stage.ReservationCheck ∷ stage.Device ∷ []
  pub rules : map (λ (e : Record). e.rule) last.records ≡ None ∷ None ∷ None ∷ None ∷ None ∷ None ∷ Some K1 ∷ None ∷ []
  pub cells : map (λ (e : Record). e.cell) last.records
      ≡ None
      ∷ Some (record { class = class.Register; res_type = restype.None; role = Other })
      ∷ Some (record { class = class.Reserve; res_type = restype.None; role = Registered })
      ∷ None
      ∷ Some (record { class = class.Write; res_type = Ea; role = Other })
      ∷ Some (record { class = class.Write; res_type = Ea; role = Holder })
      ∷ Some (record { class = class.Register; res_type = Ea; role = Other })
      ∷ Some (record { class = class.PersistentReserveIn; res_type = Ea; role = Other })
      ∷ []
  -- READ RESERVATION shows the generation, the holder's key and the type
  pub shown : map (λ (r : Reply). r.payload) replies ≡ replicate 7 [] ++ (0 ∷ 0 ∷ 0 ∷ 1 ∷ 0 ∷ 0 ∷ 0 ∷ 0x10 ∷ replicate 7 0 ++ 1 ∷ replicate 5 0 ++ 3 ∷ 0 ∷ 0 ∷ []) ∷ []

-- whatever events send these commands (there are such: `IsSent sent`)
abbrev pub WorkedRun : Type 0
WorkedRun = (tag : VolumeTag) (es : List Event) → AllSend es sent → IsWorked tag es

-- A drive whose last record number is used, and one whose 128 slots are.
abbrev pub last_number_used : UnitView
last_number_used = made (Drive empty_drive) 1 2 0xFFFF_FFFF_FFFF_FFFF

abbrev pub slots_to : ℕ → Slots
slots_to zero = []
slots_to (suc k) = slots_to k ++ (record { sas = k; port = 1 }, []) ∷ []

abbrev pub with_slots : ℕ → UnitView
with_slots count = let u = made (Drive empty_drive) 1 2 0 in record u { state = record u.state { slots = slots_to count } }

-- in any run of one TEST UNIT READY of A, to such a drive, it is BUSY, and nothing has changed
abbrev pub IsBusyToA : UnitView → Type 0
IsBusyToA u = (es : List Event) (rs : List Reply) (vs : List UnitView)
    → AllSend es ((a, test_unit_ready, []) ∷ []) → Runs (changer ∷ u ∷ []) es rs vs
    → (rs ≡ record { status = Busy; sense = None; payload = []; number = 0 } ∷ []) × (vs ≡ changer ∷ u ∷ [])

-- and there is such a run
pub record HasBusyRun (u : UnitView) : Type 0 where
  pub events : List Event
  pub send : AllSend events ((a, test_unit_ready, []) ∷ [])
  pub run : Runs (changer ∷ u ∷ []) events (busy ∷ []) (changer ∷ u ∷ [])

pub record BusyRuns : Type 0 where
  pub no_number : IsBusyToA last_number_used
  pub has_no_number : (heap : Global) → HasBusyRun last_number_used
  pub no_slot : IsBusyToA (with_slots 128)
  pub has_no_slot : (heap : Global) → HasBusyRun (with_slots 128)
  -- there is room where 127 slots are used, and for a nexus that has one of 128
  pub last_slot : has_room (with_slots 127).state a ≡ true
  pub has_slot : has_room (with_slots 128).state (record { sas = 127; port = 1 }) ≡ true

-- GOOD, with the number of a record, and CHECK CONDITION with 25h/00h
abbrev pub good_with : (number : ℕ) → Reply
good_with number = record { status = Good; sense = None; payload = []; number = number }

abbrev pub not_supported : Reply
not_supported = record {
  status = CheckCondition;
  sense = Some (record { valid = false; filemark = false; eom = false; ili = false; key = 5; information = 0; asc = 0x25; ascq = 0 });
  payload = [];
  number = 0;
}

-- and with UNIT ATTENTION, ASC 29h, by the qualifier
abbrev pub attention_29 : (ascq number : ℕ) → Reply
attention_29 ascq number = record {
  status = CheckCondition;
  sense = Some (record { valid = false; filemark = false; eom = false; ili = false; key = 6; information = 0; asc = 0x29; ascq = ascq });
  payload = [];
  number = number;
}

-- a drive whose record 1 is of A's contact
abbrev pub met_a : UnitView
met_a = let u = made (Drive empty_drive) 1 2 1 in record u { state = record u.state { slots = (a, []) ∷ [] } }

-- some run of these events ends with these replies
pub record HasRun (us : List UnitView) (es : List Event) (rs : List Reply) : Type 0 where
  pub units : List UnitView
  pub run : Runs us es rs units

pub record LossesAndResets (tag : VolumeTag) : Type 0 where
  -- the loss of a nexus that has no slot is GOOD, with no record and nothing changed
  pub unknown : Runs (units tag) (event.Loss a 1 ∷ []) (good_with 0 ∷ []) (units tag)
  -- that of one that has a slot is told to it, as 29h/07h, and has a record
  pub lost : (rs : List Reply) (vs : List UnitView) → Runs (changer ∷ met_a ∷ []) (event.Loss a 1 ∷ []) rs vs
      → (rs ≡ busy ∷ []) ⊎ ((rs ≡ good_with 2 ∷ []) × (map (λ (u : UnitView). u.state.slots) vs ≡ [] ∷ ((a, NexusLoss ∷ []) ∷ []) ∷ []))
  pub has_lost : HasRun (changer ∷ met_a ∷ []) (event.Loss a 1 ∷ []) (good_with 2 ∷ [])
  -- a reset has a record, and is told to each nexus that has a slot, as 29h/03h
  pub was_reset : (rs : List Reply) (vs : List UnitView) → Runs (changer ∷ met_a ∷ []) (event.Reset 1 ∷ []) rs vs
      → (rs ≡ busy ∷ []) ⊎ ((rs ≡ good_with 2 ∷ []) × (map (λ (u : UnitView). u.state.slots) vs ≡ [] ∷ ((a, BusDeviceReset ∷ []) ∷ []) ∷ []))
  pub has_reset : HasRun (changer ∷ met_a ∷ []) (event.Reset 1 ∷ []) (good_with 2 ∷ [])
  -- what A's next command is told then: 29h/07h of the loss, and 29h/03h of the reset
  pub told_loss : (e : Event) → Sends e (a, test_unit_ready, []) → HasRun (changer ∷ met_a ∷ []) (event.Loss a 1 ∷ e ∷ []) (good_with 2 ∷ attention_29 0x07 3 ∷ [])
  pub told_reset : (e : Event) → Sends e (a, test_unit_ready, []) → HasRun (changer ∷ met_a ∷ []) (event.Reset 1 ∷ e ∷ []) (good_with 2 ∷ attention_29 0x03 3 ∷ [])
  -- of a unit that isn't there they are refused
  pub absent : (rs : List Reply) (vs : List UnitView) → Runs (units tag) (event.Loss a 2 ∷ event.Reset 255 ∷ []) rs vs
      → (rs ≡ not_supported ∷ not_supported ∷ []) × (vs ≡ units tag)
  pub has_absent : Runs (units tag) (event.Loss a 2 ∷ event.Reset 255 ∷ []) (not_supported ∷ not_supported ∷ []) (units tag)

-- units that make a target, and why others don't
abbrev pub changer_with : (drives lun count : ℕ) → UnitView
changer_with drives lun count = made (Changer (spec_changer (empty_elements drives 8 0))) lun count 0

abbrev pub changer_of : (lun count : ℕ) → UnitView
changer_of lun count = changer_with 1 lun count

abbrev pub drive_of : (lun count : ℕ) → UnitView
drive_of lun count = made (Drive empty_drive) lun count 0

-- a changer whose data transfer element has a mark, and a drive with a volume
abbrev pub changer_marked : VolumeTag → UnitView
changer_marked tag = made (Changer (spec_changer (record (empty_elements 1 8 0) { data_transfer = Some tag ∷ [] }))) 0 2 0

abbrev pub drive_with : VolumeTag → UnitView
drive_with tag = made (Drive (record empty_drive { bay = Some (record { tag = tag; protected = false; tape = blank 1000 }); loaded = true })) 1 2 0

pub record UnitsOfATarget : Type 0 where
  pub one_drive : fault_of (changer_of 0 2 ∷ drive_of 1 2 ∷ []) ≡ None
  pub four_drives : fault_of (changer_with 4 0 5 ∷ drive_of 1 5 ∷ drive_of 2 5 ∷ drive_of 3 5 ∷ drive_of 4 5 ∷ []) ≡ None
  pub none : fault_of [] ≡ Some Count
  pub no_drive : fault_of (changer_of 0 1 ∷ []) ≡ Some Count
  pub five_drives : fault_of (changer_with 5 0 6 ∷ drive_of 1 6 ∷ drive_of 2 6 ∷ drive_of 3 6 ∷ drive_of 4 6 ∷ drive_of 5 6 ∷ []) ≡ Some Count
  pub two_changers : fault_of (changer_of 0 2 ∷ changer_of 1 2 ∷ []) ≡ Some Order
  pub no_changer : fault_of (drive_of 1 2 ∷ drive_of 1 2 ∷ []) ≡ Some Order
  pub drive_first : fault_of (drive_of 0 2 ∷ changer_of 1 2 ∷ []) ≡ Some Order
  pub no_unit_2 : fault_of (changer_with 2 0 3 ∷ drive_of 1 3 ∷ drive_of 3 3 ∷ []) ≡ Some Order
  pub from_1 : fault_of (changer_of 1 2 ∷ drive_of 2 2 ∷ []) ≡ Some Order
  pub changer_of_another_count : fault_of (changer_of 0 3 ∷ drive_of 1 2 ∷ []) ≡ Some Order
  pub drive_of_another_count : fault_of (changer_of 0 2 ∷ drive_of 1 3 ∷ []) ≡ Some Order
  pub two_elements_one_drive : fault_of (changer_with 2 0 2 ∷ drive_of 1 2 ∷ []) ≡ Some Disagree
  pub one_element_two_drives : fault_of (changer_of 0 3 ∷ drive_of 1 3 ∷ drive_of 2 3 ∷ []) ≡ Some Disagree

pub record MarksOfATarget (tag : VolumeTag) : Type 0 where
  pub unmarked : fault_of (changer_of 0 2 ∷ drive_with tag ∷ []) ≡ Some Disagree
  pub marked_in_vain : fault_of (changer_marked tag ∷ drive_of 1 2 ∷ []) ≡ Some Disagree

-- the tags of the first and the second volume
abbrev pub tag_of_byte : ℕ → VolumeTag
tag_of_byte byte = record { 0 = replicate 32 byte }

pub record MarksByTag : Type 0 where
  pub same : fault_of (changer_marked (tag_of_byte 0x41) ∷ drive_with (tag_of_byte 0x41) ∷ []) ≡ None
  pub another : fault_of (changer_marked (tag_of_byte 0x41) ∷ drive_with (tag_of_byte 0x42) ∷ []) ≡ Some Disagree
