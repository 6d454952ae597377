-- The rows of legal trails: each legal record is what judgement says, and each neighbour differs from it at one place.
use Rattle.std.proofs.Common.{◌≡◌, ℕ, Bool, true, false, ◌==◌, ◌||◌, Option, Some, None, inl, inr, refl, ap, ◌∙◌, is_none, length, arith}
use Rattle.scsi_cdb.specs.declared.classes.Class.{Class}
use Rattle.scsi_cdb.specs.declared.classes.Class.TheVariants as class
use Rattle.permit_tables.specs.declared.cell.Cell.{Cell}
use Rattle.permit_tables.specs.declared.res_type.ResType.{ResType}
use Rattle.permit_tables.specs.declared.res_type.ResType.TheVariants as restype
use Rattle.permit_tables.specs.declared.role.Role.{Role}
use Rattle.permit_tables.specs.declared.role.Role.TheVariants.{Other}
use Rattle.scsi_sense.specs.declared.condition.Condition.{Condition}
use Rattle.scsi_sense.specs.declared.condition.Condition.TheVariants.{InvalidCommandOperationCode, InvalidFieldInCdb, ParameterListLengthError}
use Rattle.scsi_sense.specs.Conditions.{sense_for}
use Rattle.scsi_sense.specs.declared.sense.Sense.{Sense}
use Rattle.unit_attention.specs.declared.kind.Kind.TheVariants.{MediumChanged, ModeParametersChanged}
use Rattle.judgement.specs.UnitStateView.{UnitStateView}
use Rattle.logical_unit.specs.Legal.{is_of_decoding, IsJudged}
use Rattle.unit_laws.specs.TrailRows.{ConflictRecords, ReportsFirst, ReportsLater, ReportsAndConflicts, InvalidRecords, ModeRecords, RoomForSenders, MediumRecords, at_rest, prevented, ready, prevent, Trails}

-- what a cell and sense data say, place by place
abbrev role_in : Option Cell → Role
role_in None = Other
role_in (Some cell) = cell.role

abbrev class_in : Option Cell → Class
class_in None = class.TestUnitReady
class_in (Some cell) = cell.class

abbrev type_in : Option Cell → ResType
type_in None = restype.None
type_in (Some cell) = cell.res_type

abbrev key_in : Option Sense → ℕ
key_in None = 0
key_in (Some sense) = sense.key

abbrev code_in : Option Sense → ℕ
code_in None = 0
code_in (Some sense) = sense.asc

abbrev qualifier_in : Option Sense → ℕ
qualifier_in None = 0
qualifier_in (Some sense) = sense.ascq

-- the additional sense codes of bytes that decode to no command
abbrev is_decoding_code : ℕ → Bool
is_decoding_code asc = (asc == 0x20) || ((asc == 0x24) || (asc == 0x1A))

decoding_code : (c : Condition) → is_of_decoding c ≡ true → is_decoding_code (sense_for c).asc ≡ true
decoding_code InvalidCommandOperationCode of = refl
decoding_code InvalidFieldInCdb of = refl
decoding_code ParameterListLengthError of = refl
decoding_code condition of = cc

pub conflict_records : ConflictRecords
conflict_records = record {
  legal = record { room = refl; listless = refl; judged = record { stage = refl; cell = refl; rule = refl; told = refl; status = refl; sense = refl } };
  another_role = λ j. let e = ap role_in j.judged.cell in cc;
  another_class = λ j. let e = ap class_in j.judged.cell in cc;
  another_type = λ j. let e = ap type_in j.judged.cell in cc;
  no_cell = λ j. let e : true ≡ false = ap is_none j.judged.cell in cc;
  a_rule = λ j. let e : false ≡ true = ap is_none j.judged.rule in cc;
  with_sense = λ j. let e : false ≡ true = ap is_none j.judged.sense in cc;
  let_in = λ j. let e = j.judged.stage in cc;
  of_the_holder = λ j. elim j.judged.stage [ inl e ↦ cc | inr e ↦ cc ];
  keyless = record { room = refl; judged = record { stage = refl; cell = refl; rule = refl; told = refl; status = refl; sense = refl } };
  no_rule = λ j. let e : true ≡ false = ap is_none j.judged.rule in cc;
  another_rule = λ j. let e = j.judged.rule in cc;
}

pub reports_first : ReportsFirst
reports_first = record {
  power_on = record { room = refl; listless = refl; judged = record { stage = refl; cell = refl; rule = refl; told = refl; status = refl; sense = refl } };
  reset = record { room = refl; listless = refl; judged = record { stage = refl; cell = refl; rule = refl; told = refl; status = refl; sense = refl } };
  loss = record { room = refl; listless = refl; judged = record { stage = refl; cell = refl; rule = refl; told = refl; status = refl; sense = refl } };
  power_on_as_loss = λ j. let e : 0x07 ≡ 0x00 = ap qualifier_in j.judged.sense in omega arith;
  reset_as_loss = λ j. let e : 0x07 ≡ 0x03 = ap qualifier_in j.judged.sense in omega arith;
  loss_as_reset = λ j. let e : 0x03 ≡ 0x07 = ap qualifier_in j.judged.sense in omega arith;
  another_code = λ j. let e : 0x2A ≡ 0x29 = ap code_in j.judged.sense in omega arith;
  senseless = λ j. let e : true ≡ false = ap is_none j.judged.sense in cc;
  good = λ j. let e = j.judged.status in cc;
  later = λ j. let e = j.judged.stage in cc;
  nothing_waits = λ j. elim j.judged.stage [ inl e ↦ cc | inr e ↦ cc ];
  older_medium = record { room = refl; listless = refl; judged = record { stage = refl; cell = refl; rule = refl; told = refl; status = refl; sense = refl } };
  medium_before = λ j. let e = j.judged.stage in cc;
}

pub reports_later : ReportsLater
reports_later = record {
  medium = record { room = refl; listless = refl; judged = record { stage = refl; cell = refl; rule = refl; told = refl; status = refl; sense = refl } };
  mode = record { room = refl; listless = refl; judged = record { stage = refl; cell = refl; rule = refl; told = refl; status = refl; sense = refl } };
  log = record { room = refl; listless = refl; judged = record { stage = refl; cell = refl; rule = refl; told = refl; status = refl; sense = refl } };
  preempted = record { room = refl; listless = refl; judged = record { stage = refl; cell = refl; rule = refl; told = refl; status = refl; sense = refl } };
  released = record { room = refl; listless = refl; judged = record { stage = refl; cell = refl; rule = refl; told = refl; status = refl; sense = refl } };
  registrations = record { room = refl; listless = refl; judged = record { stage = refl; cell = refl; rule = refl; told = refl; status = refl; sense = refl } };
  medium_as_reset = λ j. let e : 0x29 ≡ 0x28 = ap code_in j.judged.sense in omega arith;
  mode_as_preempted = λ j. let e : 0x03 ≡ 0x01 = ap qualifier_in j.judged.sense in omega arith;
  mode_as_log = λ j. let e : 0x02 ≡ 0x01 = ap qualifier_in j.judged.sense in omega arith;
  preempted_as_registrations = λ j. let e : 0x05 ≡ 0x03 = ap qualifier_in j.judged.sense in omega arith;
  released_as_preempted = λ j. let e : 0x03 ≡ 0x04 = ap qualifier_in j.judged.sense in omega arith;
  registrations_as_released = λ j. let e : 0x04 ≡ 0x05 = ap qualifier_in j.judged.sense in omega arith;
  senseless = λ j. let e : true ≡ false = ap is_none j.judged.sense in cc;
  another_key = λ j. let e : 5 ≡ 6 = ap key_in j.judged.sense in omega arith;
  first = λ j. let e = j.judged.stage in cc;
  nothing_waits = λ j. elim j.judged.stage [ inl e ↦ cc | inr e ↦ cc ];
  waits_on = λ j. let e = j.judged.stage in cc;
}

pub reports_and_conflicts : ReportsAndConflicts
reports_and_conflicts = record {
  reset_first = record { room = refl; listless = refl; judged = record { stage = refl; cell = refl; rule = refl; told = refl; status = refl; sense = refl } };
  conflict_first = λ j. let e = j.judged.stage in cc;
  conflict = record { room = refl; listless = refl; judged = record { stage = refl; cell = refl; rule = refl; told = refl; status = refl; sense = refl } };
  released_first = λ j. let e = j.judged.stage in cc;
  still_waits = refl;
  waits_no_more = refl;
}

pub invalid_records : InvalidRecords
invalid_records = record {
  operation_code = record { room = refl; condition = InvalidCommandOperationCode; decoding = refl; says = record { stage = refl; cell = refl; rule = refl; told = refl; status = refl; sense = refl } };
  field_in_cdb = record { room = refl; condition = InvalidFieldInCdb; decoding = refl; says = record { stage = refl; cell = refl; rule = refl; told = refl; status = refl; sense = refl } };
  list_length = record { room = refl; condition = ParameterListLengthError; decoding = refl; says = record { stage = refl; cell = refl; rule = refl; told = refl; status = refl; sense = refl } };
  field_in_list = λ j. let e : false ≡ true = ap (λ (s : Option Sense). is_decoding_code (code_in s)) j.says.sense ∙ decoding_code j.condition j.decoding in cc;
  not_supported = λ j. let e : false ≡ true = ap (λ (s : Option Sense). is_decoding_code (code_in s)) j.says.sense ∙ decoding_code j.condition j.decoding in cc;
  an_attention = λ j. let e : false ≡ true = ap (λ (s : Option Sense). is_decoding_code (code_in s)) j.says.sense ∙ decoding_code j.condition j.decoding in cc;
  in_a_cell = λ j. let e : false ≡ true = ap is_none j.says.cell in cc;
  good = λ j. let e = j.says.status in cc;
}

pub mode_records : ModeRecords
mode_records = record {
  mode_select = record { room = refl; listless = refl; judged = record { stage = inr refl; cell = refl; rule = refl; whole = inl (refl, refl); fields = λ e. absurd cc; unit = λ own e. absurd cc; told = λ kind e. record { class = e; stage = refl; status = refl } } };
  told = refl;
  write = λ j. let e : None ≡ Some ModeParametersChanged = (j.judged.told ModeParametersChanged refl).class in cc;
  mode_sense = λ j. let e : None ≡ Some ModeParametersChanged = (j.judged.told ModeParametersChanged refl).class in cc;
  another_kind = λ j. let e : Some ModeParametersChanged ≡ Some MediumChanged = (j.judged.told MediumChanged refl).class in cc;
  refused = λ j. let e = (j.judged.told ModeParametersChanged refl).stage in cc;
  checked = λ j. let e = (j.judged.told ModeParametersChanged refl).status in cc;
  conflict = λ j. let e = j.judged.told in cc;
}

pub room_for_senders : RoomForSenders
room_for_senders = record {
  last = record { room = refl; condition = InvalidFieldInCdb; decoding = refl; says = record { stage = refl; cell = refl; rule = refl; told = refl; status = refl; sense = refl } };
  last_command = record { room = refl; listless = refl; judged = record { stage = refl; cell = refl; rule = refl; told = refl; status = refl; sense = refl } };
  none = λ j. let e = j.room in cc;
  none_command = λ j. let e = j.room in cc;
  known = record { room = refl; condition = InvalidFieldInCdb; decoding = refl; says = record { stage = refl; cell = refl; rule = refl; told = refl; status = refl; sense = refl } };
}

pub medium_records : MediumRecords
medium_records = record {
  out = record { free = refl; says = record { stage = refl; cell = refl; rule = refl; told = refl; status = refl; sense = refl } };
  out_prevented = λ j. let e = j.free in cc;
  in_prevented = record { stage = refl; cell = refl; rule = refl; told = refl; status = refl; sense = refl };
  of_a_nexus = λ j. j;
  checked = λ j. let e = j.says.status in cc;
}

-- A's TEST UNIT READY, before its PREVENT and after it, and the PREVENT
ready_stands : (number : ℕ) → IsJudged at_rest (ready number)
ready_stands number = record {
  room = refl;
  listless = refl;
  judged = record { stage = inr refl; cell = refl; rule = refl; whole = inl (refl, refl); fields = λ e. absurd cc; unit = λ own e. absurd cc; told = λ kind e. absurd cc };
}

ready_later : (number : ℕ) → IsJudged prevented (ready number)
ready_later number = record {
  room = refl;
  listless = refl;
  judged = record { stage = inr refl; cell = refl; rule = refl; whole = inl (refl, refl); fields = λ e. absurd cc; unit = λ own e. absurd cc; told = λ kind e. absurd cc };
}

prevent_stands : (number : ℕ) → IsJudged at_rest (prevent number)
prevent_stands number = record {
  room = refl;
  listless = refl;
  judged = record { stage = inr refl; cell = refl; rule = refl; whole = inl (refl, refl); fields = λ e. absurd cc; unit = λ own e. refl; told = λ kind e. absurd cc };
}

pub trails : Trails
trails = record {
  legal = record { numbered = (refl, (refl, tt)); judged = (ready_stands 8, (ready_stands 9, tt)); present = refl };
  gap = λ t. let e : 10 ≡ 9 = t.numbered.1.0 in omega arith;
  repeated = λ t. let e : 8 ≡ 9 = t.numbered.1.0 in omega arith;
  too_early = λ t. let e : 7 ≡ 8 = t.numbered.0 in omega arith;
  misjudged = λ t. let e = ap role_in t.judged.1.0.judged.cell in cc;
  prevents = record { numbered = (refl, (refl, tt)); judged = (prevent_stands 8, (ready_later 9, tt)); present = refl };
  forgotten = λ t. let e : 0 ≡ 1 = ap (λ (k : UnitStateView). length k.preventers) t.present in omega arith;
  out_before = record { numbered = (refl, (refl, tt)); judged = (record { free = refl; says = record { stage = refl; cell = refl; rule = refl; told = refl; status = refl; sense = refl } }, (prevent_stands 9, tt)); present = refl };
  out_after = λ t. let e = t.judged.1.0.free in cc;
}
