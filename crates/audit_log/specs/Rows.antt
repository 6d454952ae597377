-- Worked records and their lines: A at port 1.
use Rattle.std.specs.Prelude.{◌≡◌, ℕ, ◌+◌, false, List, [], ◌∷◌, length, Some, None}
use Rattle.scsi_cdb.specs.declared.classes.Class.TheVariants as class
use Rattle.scsi_cdb.specs.declared.service_action.OutServiceAction.TheVariants as out
use Rattle.scsi_sense.specs.Conditions.{sense_for}
use Rattle.scsi_sense.specs.declared.condition.Condition.TheVariants.{PowerOnOrResetOccurred, NotReadyToReadyChange, InvalidCommandOperationCode, InvalidFieldInParameterList}
use Rattle.scsi_sense.specs.declared.status.Status.TheVariants.{Good, CheckCondition, ReservationConflict}
use Rattle.scsi_nexus.specs.declared.nexus.Nexus.{Nexus}
use Rattle.permit_tables.specs.declared.res_type.ResType.TheVariants as type
use Rattle.permit_tables.specs.declared.role.Role.TheVariants.{Holder, Registered, Other}
use Rattle.permit_tables.specs.declared.out_params.OutParams.{OutParams}
use Rattle.permit_tables.specs.declared.key_rule.KeyRule.TheVariants.{K1}
use Rattle.audit_log.specs.declared.stage.Stage.TheVariants.{Decoding, ResetAttention, ReservationCheck, OtherAttention, Fields, Device}
use Rattle.audit_log.specs.declared.act.Act.TheVariants.{Command, ReserveOut, Invalid, Loss, Reset, MediumIn, MediumOut}
use Rattle.audit_log.specs.declared.record.Record.{Record}
use Rattle.audit_log.specs.TrailView.{TrailView, last_of, IsNumbered}

abbrev pub a : Nexus
a = record { sas = 0x500000000000000A; port = 1 }

-- REGISTER with a reservation key that the sender doesn't have
abbrev pub register : OutParams
register = record {
  rk = 5;
  sark = 6;
  dest = None;
  act = out.Register;
  scope_type = 0;
  unreg = false;
  defect = None;
  all_ports = false;
  listed = false;
  targets = record { items = [] };
}

-- A's first TEST UNIT READY meets the condition of its first contact
abbrev pub first_contact : Record
first_contact = record {
  number = 1;
  nexus = Some a;
  act = Command class.TestUnitReady;
  stage = ResetAttention;
  cell = None;
  rule = None;
  status = CheckCondition;
  sense = Some (sense_for PowerOnOrResetOccurred);
  told = None;
}

-- its second, which nothing refuses
abbrev pub ready : Record
ready = record first_contact {
  number = 2;
  stage = Device;
  cell = Some (record { class = class.TestUnitReady; res_type = type.None; role = Other });
  status = Good;
  sense = None;
}

-- that REGISTER breaks the first rule on keys
abbrev pub wrong_key : Record
wrong_key = record first_contact {
  number = 2;
  act = ReserveOut register;
  stage = ReservationCheck;
  cell = Some (record { class = class.Register; res_type = type.None; role = Other });
  rule = Some K1;
  status = ReservationConflict;
  sense = None;
}

-- A is lost
abbrev pub lost : Record
lost = record first_contact { number = 3; act = Loss; stage = Device; status = Good; sense = None }

-- a reset of the unit is nobody's
abbrev pub was_reset : Record
was_reset = record lost { number = 40; nexus = None; act = Reset }

-- the volume is taken out, with the last number that there is
abbrev pub taken_out : Record
taken_out = record was_reset { number = 18446744073709551615; act = MediumOut }

-- a volume comes in
abbrev pub brought_in : Record
brought_in = record was_reset { number = 41; act = MediumIn }

-- A is told that the medium changed, by a WRITE(6) as the reservation's holder at another port
abbrev pub medium_changed : Record
medium_changed = record first_contact {
  number = 255;
  nexus = Some (record a { port = 4 });
  act = Command class.Write;
  stage = OtherAttention;
  cell = Some (record { class = class.Write; res_type = type.Eaar; role = Holder });
  sense = Some (sense_for NotReadyToReadyChange);
}

-- a REGISTER at port 2 is refused for its parameter list
abbrev pub refused_field : Record
refused_field = record wrong_key {
  number = 10;
  nexus = Some (record { sas = 0x5000C500112233FF; port = 2 });
  stage = Fields;
  cell = Some (record { class = class.Register; res_type = type.Wero; role = Registered });
  rule = None;
  status = CheckCondition;
  sense = Some (sense_for InvalidFieldInParameterList);
}

-- bytes of A that decode to no command
abbrev pub unknown_opcode : Record
unknown_opcode = record first_contact { act = Invalid; stage = Decoding; sense = Some (sense_for InvalidCommandOperationCode) }

-- a loss of A by its number
abbrev pub loss : ℕ → Record
loss n = record lost { number = n }

abbrev pub trail : (base : ℕ) → List Record → (room : ℕ) → TrailView
trail base records room = record { base = base; records = records; room = room }

-- what is left of a trail whose records were handed out, by the room of the vector that they were handed out into, or none
abbrev pub handed_out : TrailView → (room : ℕ) → TrailView
handed_out t room = trail (last_of t) [] room

-- the room of the vector that comes back with the records
abbrev pub room_with : TrailView → ℕ
room_with t = length t.records + t.room

-- a trail hands out its records and goes on counting
pub record HandedOut : Type 0 where
  pub two : IsNumbered 0 (loss 1 ∷ loss 2 ∷ []) × (last_of (trail 0 (loss 1 ∷ loss 2 ∷ []) 0) ≡ 2)
  pub drained : handed_out (trail 0 (loss 1 ∷ loss 2 ∷ []) 0) 0 ≡ trail 2 [] 0
  pub goes_on : IsNumbered 2 (loss 3 ∷ []) × (last_of (trail 2 (loss 3 ∷ []) 0) ≡ 3)
  -- into a vector with room for a hundred, which is given up, and comes back with what is handed out next
  pub given_up : handed_out (trail 0 (loss 1 ∷ []) 0) 100 ≡ trail 1 [] 100
  pub other_room : room_with (trail 0 (loss 1 ∷ []) 0) ≡ 1
  pub in_its_room : IsNumbered 1 (loss 2 ∷ loss 3 ∷ []) × (last_of (trail 1 (loss 2 ∷ loss 3 ∷ []) 98) ≡ 3)
  pub comes_back : room_with (trail 1 (loss 2 ∷ loss 3 ∷ []) 98) ≡ 100
  pub goes_on_behind : last_of (handed_out (trail 1 (loss 2 ∷ loss 3 ∷ []) 98) 1) + 1 ≡ 4
