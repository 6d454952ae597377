-- Worked rows: records that stand in a legal trail, each beside neighbours that don't. The drive is that of the other rows, which A holds.
use Rattle.std.specs.Prelude.{◌≡◌, ℕ, zero, suc, List, [], ◌∷◌, ◌++◌, Option, Some, None}
use Rattle.scsi_cdb.specs.declared.classes.Class.{Class}
use Rattle.scsi_cdb.specs.declared.classes.Class.TheVariants as class
use Rattle.scsi_nexus.specs.declared.nexus.Nexus.{Nexus}
use Rattle.scsi_sense.specs.declared.sense.Sense.{Sense}
use Rattle.scsi_sense.specs.declared.status.Status.TheVariants.{Good, CheckCondition, ReservationConflict}
use Rattle.unit_attention.specs.declared.kind.Kind.{Kind}
use Rattle.unit_attention.specs.declared.kind.Kind.TheVariants.{PowerOn, BusDeviceReset, NexusLoss, MediumChanged, ModeParametersChanged, LogParametersChanged, ReservationsPreempted, ReservationsReleased, RegistrationsPreempted}
use Rattle.unit_attention.specs.Queues.{Slots}
use Rattle.permit_tables.specs.declared.cell.Cell.{Cell}
use Rattle.permit_tables.specs.declared.key_rule.KeyRule.{KeyRule}
use Rattle.permit_tables.specs.declared.key_rule.KeyRule.TheVariants.{K1, K3}
use Rattle.permit_tables.specs.declared.res_type.ResType.TheVariants.{We, Ea}
use Rattle.permit_tables.specs.declared.role.Role.{Role}
use Rattle.permit_tables.specs.declared.role.Role.TheVariants.{Holder, Registered, Other}
use Rattle.audit_log.specs.declared.act.Act.{Act}
use Rattle.audit_log.specs.declared.act.Act.TheVariants as act
use Rattle.audit_log.specs.declared.record.Record.{Record}
use Rattle.audit_log.specs.declared.stage.Stage.TheVariants.{Decoding, ResetAttention, ReservationCheck, OtherAttention, Fields, Device}
use Rattle.judgement.specs.UnitStateView.{UnitStateView}
use Rattle.logical_unit.specs.UnitView.{Base}
use Rattle.logical_unit.specs.Legal.{IsJudged, IsTrail, kept_by}
use Rattle.unit_laws.specs.Rows.{a, b, slots_with, kept_by_a, noted, noted_in, register_params, unsensed}

-- nothing waits, and nobody prevents removal
abbrev pub at_rest : UnitStateView
at_rest = kept_by_a (slots_with []) []

abbrev pub cell_of : Class → Role → Cell
cell_of class role = record { class = class; res_type = Ea; role = role }

-- CONFLICTS

-- B's WRITE(6), which ended in conflict in this cell; B's REGISTER with a key that it hasn't, which broke this rule
abbrev pub barred : Cell → Record
barred cell = noted_in b (act.Command class.Write) ReservationCheck ReservationConflict None cell

abbrev pub unkeyed : Option KeyRule → Record
unkeyed rule = record (noted_in b (act.ReserveOut (register_params 5 2)) ReservationCheck ReservationConflict None (cell_of class.Register Other)) { rule = rule }

-- the record of a conflict names the sender's cell, and the rule that was broken, if one was
pub record ConflictRecords : Type 0 where
  pub legal : IsJudged at_rest (barred (cell_of class.Write Other))
  pub another_role : IsJudged at_rest (barred (cell_of class.Write Registered)) → ⊥
  pub another_class : IsJudged at_rest (barred (cell_of class.Read Other)) → ⊥
  pub another_type : IsJudged at_rest (barred (record (cell_of class.Write Other) { res_type = We })) → ⊥
  pub no_cell : IsJudged at_rest (noted b (act.Command class.Write) ReservationCheck ReservationConflict None) → ⊥
  pub a_rule : IsJudged at_rest (record (barred (cell_of class.Write Other)) { rule = Some K1 }) → ⊥
  pub with_sense : IsJudged at_rest (record (barred (cell_of class.Write Other)) { sense = Some unsensed }) → ⊥
  pub let_in : IsJudged at_rest (noted_in b (act.Command class.Write) Device Good None (cell_of class.Write Other)) → ⊥
  pub of_the_holder : IsJudged at_rest (noted_in a (act.Command class.Write) ReservationCheck ReservationConflict None (cell_of class.Write Holder)) → ⊥
  pub keyless : IsJudged at_rest (unkeyed (Some K1))
  pub no_rule : IsJudged at_rest (unkeyed None) → ⊥
  pub another_rule : IsJudged at_rest (unkeyed (Some K3)) → ⊥

-- ATTENTIONS

-- the sense data of an attention, by its additional sense code and qualifier
abbrev pub attention_of : (asc ascq : ℕ) → Sense
attention_of asc ascq = record unsensed { key = 6; asc = asc; ascq = ascq }

-- what waits for A, who holds
abbrev pub waits : List Kind → UnitStateView
waits kinds = kept_by_a ((a, kinds) ∷ (b, []) ∷ []) []

-- A's TEST UNIT READY, told of an attention before the reservation check, and behind it
abbrev pub told_first : (asc ascq : ℕ) → Record
told_first asc ascq = noted a (act.Command class.TestUnitReady) ResetAttention CheckCondition (Some (attention_of asc ascq))

abbrev pub told_later : (asc ascq : ℕ) → Record
told_later asc ascq = noted_in a (act.Command class.TestUnitReady) OtherAttention CheckCondition (Some (attention_of asc ascq)) (cell_of class.TestUnitReady Holder)

-- stage 2 reports the attention of ASC 29h that waits, by its own sense data
pub record ReportsFirst : Type 0 where
  pub power_on : IsJudged (waits (PowerOn ∷ [])) (told_first 0x29 0x00)
  pub reset : IsJudged (waits (BusDeviceReset ∷ [])) (told_first 0x29 0x03)
  pub loss : IsJudged (waits (NexusLoss ∷ [])) (told_first 0x29 0x07)
  pub power_on_as_loss : IsJudged (waits (PowerOn ∷ [])) (told_first 0x29 0x07) → ⊥
  pub reset_as_loss : IsJudged (waits (BusDeviceReset ∷ [])) (told_first 0x29 0x07) → ⊥
  pub loss_as_reset : IsJudged (waits (NexusLoss ∷ [])) (told_first 0x29 0x03) → ⊥
  pub another_code : IsJudged (waits (NexusLoss ∷ [])) (told_first 0x2A 0x07) → ⊥
  pub senseless : IsJudged (waits (NexusLoss ∷ [])) (record (told_first 0x29 0x07) { sense = None }) → ⊥
  pub good : IsJudged (waits (NexusLoss ∷ [])) (record (told_first 0x29 0x07) { status = Good; sense = None }) → ⊥
  pub later : IsJudged (waits (NexusLoss ∷ [])) (told_later 0x29 0x07) → ⊥
  pub nothing_waits : IsJudged at_rest (told_first 0x29 0x07) → ⊥
  pub older_medium : IsJudged (waits (MediumChanged ∷ NexusLoss ∷ [])) (told_first 0x29 0x07)
  pub medium_before : IsJudged (waits (MediumChanged ∷ NexusLoss ∷ [])) (told_later 0x28 0x00) → ⊥

-- stage 4 reports another attention that waits, by its own
pub record ReportsLater : Type 0 where
  pub medium : IsJudged (waits (MediumChanged ∷ [])) (told_later 0x28 0x00)
  pub mode : IsJudged (waits (ModeParametersChanged ∷ [])) (told_later 0x2A 0x01)
  pub log : IsJudged (waits (LogParametersChanged ∷ [])) (told_later 0x2A 0x02)
  pub preempted : IsJudged (waits (ReservationsPreempted ∷ [])) (told_later 0x2A 0x03)
  pub released : IsJudged (waits (ReservationsReleased ∷ [])) (told_later 0x2A 0x04)
  pub registrations : IsJudged (waits (RegistrationsPreempted ∷ [])) (told_later 0x2A 0x05)
  pub medium_as_reset : IsJudged (waits (MediumChanged ∷ [])) (told_later 0x29 0x00) → ⊥
  pub mode_as_preempted : IsJudged (waits (ModeParametersChanged ∷ [])) (told_later 0x2A 0x03) → ⊥
  pub mode_as_log : IsJudged (waits (ModeParametersChanged ∷ [])) (told_later 0x2A 0x02) → ⊥
  pub preempted_as_registrations : IsJudged (waits (ReservationsPreempted ∷ [])) (told_later 0x2A 0x05) → ⊥
  pub released_as_preempted : IsJudged (waits (ReservationsReleased ∷ [])) (told_later 0x2A 0x03) → ⊥
  pub registrations_as_released : IsJudged (waits (RegistrationsPreempted ∷ [])) (told_later 0x2A 0x04) → ⊥
  pub senseless : IsJudged (waits (ReservationsReleased ∷ [])) (record (told_later 0x2A 0x04) { sense = None }) → ⊥
  pub another_key : IsJudged (waits (ReservationsReleased ∷ [])) (record (told_later 0x2A 0x04) { sense = Some (record (attention_of 0x2A 0x04) { key = 5 }) }) → ⊥
  pub first : IsJudged (waits (ReservationsReleased ∷ [])) (told_first 0x2A 0x04) → ⊥
  pub nothing_waits : IsJudged at_rest (told_later 0x2A 0x04) → ⊥
  pub waits_on : IsJudged (waits (ReservationsReleased ∷ [])) (noted_in a (act.Command class.TestUnitReady) Device Good None (cell_of class.TestUnitReady Holder)) → ⊥

-- B's WRITE(6) where an attention waits for B: of ASC 29h it is reported before the conflict, another stays behind it
abbrev pub waits_for_b : Kind → UnitStateView
waits_for_b kind = kept_by_a (slots_with (kind ∷ [])) []

pub record ReportsAndConflicts : Type 0 where
  pub reset_first : IsJudged (waits_for_b NexusLoss) (noted b (act.Command class.Write) ResetAttention CheckCondition (Some (attention_of 0x29 0x07)))
  pub conflict_first : IsJudged (waits_for_b NexusLoss) (barred (cell_of class.Write Other)) → ⊥
  pub conflict : IsJudged (waits_for_b ReservationsReleased) (barred (cell_of class.Write Other))
  pub released_first : IsJudged (waits_for_b ReservationsReleased) (noted_in b (act.Command class.Write) OtherAttention CheckCondition (Some (attention_of 0x2A 0x04)) (cell_of class.Write Other)) → ⊥
  pub still_waits : kept_by (waits_for_b ReservationsReleased) (barred (cell_of class.Write Other)) ≡ waits_for_b ReservationsReleased
  pub waits_no_more : kept_by (waits (ReservationsReleased ∷ [])) (told_later 0x2A 0x04) ≡ at_rest

-- BYTES THAT SPELL NO COMMAND

abbrev pub invalid : (asc : ℕ) → Record
invalid asc = noted b act.Invalid Decoding CheckCondition (Some (record unsensed { asc = asc }))

-- 20h/00h, 24h/00h and 1Ah/00h are reported of them, and nothing else
pub record InvalidRecords : Type 0 where
  pub operation_code : IsJudged at_rest (invalid 0x20)
  pub field_in_cdb : IsJudged at_rest (invalid 0x24)
  pub list_length : IsJudged at_rest (invalid 0x1A)
  pub field_in_list : IsJudged at_rest (invalid 0x26) → ⊥
  pub not_supported : IsJudged at_rest (invalid 0x25) → ⊥
  pub an_attention : IsJudged at_rest (record (invalid 0x29) { sense = Some (attention_of 0x29 0x00) }) → ⊥
  pub in_a_cell : IsJudged at_rest (record (invalid 0x24) { cell = Some (cell_of class.Write Other) }) → ⊥
  pub good : IsJudged at_rest (record (invalid 0x24) { status = Good; sense = None }) → ⊥

-- WHAT THE OTHERS ARE TOLD

-- A's command that told them of changed mode parameters
abbrev pub changed : Class → Record
changed class = record (noted_in a (act.Command class) Device Good None (cell_of class Holder)) { told = Some ModeParametersChanged }

-- only a MODE SELECT that is GOOD does, and it tells every other slot that, and nothing else
pub record ModeRecords : Type 0 where
  pub mode_select : IsJudged at_rest (changed class.ModeSelect)
  pub told : kept_by at_rest (changed class.ModeSelect) ≡ waits_for_b ModeParametersChanged
  pub write : IsJudged at_rest (changed class.Write) → ⊥
  pub mode_sense : IsJudged at_rest (changed class.ModeSense) → ⊥
  pub another_kind : IsJudged at_rest (record (changed class.ModeSelect) { told = Some MediumChanged }) → ⊥
  pub refused : IsJudged at_rest (record (changed class.ModeSelect) { stage = Fields; status = CheckCondition; sense = Some unsensed }) → ⊥
  pub checked : IsJudged at_rest (record (changed class.ModeSelect) { status = CheckCondition; sense = Some unsensed }) → ⊥
  pub conflict : IsJudged at_rest (record (barred (cell_of class.Write Other)) { told = Some ModeParametersChanged }) → ⊥

-- ROOM FOR A SENDER

-- where so many other nexuses have slots
abbrev pub slots_to : ℕ → Slots
slots_to zero = []
slots_to (suc k) = slots_to k ++ (record { sas = k; port = 1 }, []) ∷ []

abbrev pub with_slots : ℕ → UnitStateView
with_slots count = kept_by_a (slots_to count) []

abbrev pub second : Nexus
second = record { sas = 1; port = 1 }

abbrev pub invalid_of : Nexus → Record
invalid_of n = noted n act.Invalid Decoding CheckCondition (Some unsensed)

-- the 129th nexus leaves no record, whatever it sends; the 128th does, and each that has a slot
pub record RoomForSenders : Type 0 where
  pub last : IsJudged (with_slots 127) (invalid_of a)
  pub last_command : IsJudged (with_slots 127) (told_first 0x29 0x00)
  pub none : IsJudged (with_slots 128) (invalid_of a) → ⊥
  pub none_command : IsJudged (with_slots 128) (told_first 0x29 0x00) → ⊥
  pub known : IsJudged (with_slots 128) (invalid_of second)

-- VOLUMES

-- an event without a nexus
abbrev pub happened : Act → Record
happened event = record { number = 1; nexus = None; act = event; stage = Device; cell = None; rule = None; status = Good; sense = None; told = None }

-- a volume is taken out where nobody prevents it; it comes in also there
pub record MediumRecords : Type 0 where
  pub out : IsJudged at_rest (happened act.MediumOut)
  pub out_prevented : IsJudged (kept_by_a (slots_with []) (b ∷ [])) (happened act.MediumOut) → ⊥
  pub in_prevented : IsJudged (kept_by_a (slots_with []) (b ∷ [])) (happened act.MediumIn)
  pub of_a_nexus : IsJudged at_rest (record (happened act.MediumOut) { nexus = Some a }) → ⊥
  pub checked : IsJudged at_rest (record (happened act.MediumOut) { status = CheckCondition; sense = Some unsensed }) → ⊥

-- TRAILS, from a base whose last number is 7

abbrev pub base : Base
base = record { state = at_rest; last = 7 }

abbrev pub numbered_as : ℕ → Record → Record
numbered_as number e = record e { number = number }

-- A's TEST UNIT READY and PREVENT that are GOOD, and a volume taken out
abbrev pub ready : ℕ → Record
ready number = numbered_as number (noted_in a (act.Command class.TestUnitReady) Device Good None (cell_of class.TestUnitReady Holder))

abbrev pub prevent : ℕ → Record
prevent number = numbered_as number (noted_in a (act.Command class.PreventRemoval) Device Good None (cell_of class.PreventRemoval Holder))

abbrev pub prevented : UnitStateView
prevented = kept_by_a (slots_with []) (a ∷ [])

-- numbers rise by one, each record is judged by what those before it left, and they leave what is kept
pub record Trails : Type 0 where
  pub legal : IsTrail base (ready 8 ∷ ready 9 ∷ []) at_rest
  pub gap : IsTrail base (ready 8 ∷ ready 10 ∷ []) at_rest → ⊥
  pub repeated : IsTrail base (ready 8 ∷ ready 8 ∷ []) at_rest → ⊥
  pub too_early : IsTrail base (ready 7 ∷ ready 8 ∷ []) at_rest → ⊥
  pub misjudged : IsTrail base (ready 8 ∷ numbered_as 9 (barred (cell_of class.Write Registered)) ∷ []) at_rest → ⊥
  pub prevents : IsTrail base (prevent 8 ∷ ready 9 ∷ []) prevented
  pub forgotten : IsTrail base (prevent 8 ∷ ready 9 ∷ []) at_rest → ⊥
  pub out_before : IsTrail base (numbered_as 8 (happened act.MediumOut) ∷ prevent 9 ∷ []) prevented
  pub out_after : IsTrail base (prevent 8 ∷ numbered_as 9 (happened act.MediumOut) ∷ []) prevented → ⊥
