-- Legal trails: what each record changes in what is kept, and how it must have been judged after the records before it.
use Rattle.std.specs.Prelude.{◌≡◌, ◌↔◌, Bool, true, false, List, [], ◌∷◌, Option, None, Some, if◌then◌else◌, ◌⊎◌}
use Rattle.std.specs.List.{All, flat_map}
use Rattle.scsi_cdb.specs.declared.classes.Class.{Class}
use Rattle.scsi_cdb.specs.declared.classes.Class.TheVariants.{TestUnitReady, Rewind, ReadBlockLimits, InitializeElementStatus, Erase, ReadPosition, Inquiry, ReportLuns, RequestSense, PersistentReserveIn, PreventRemoval, AllowRemoval, ModeSense, ModeSelect, Register, Reserve, Release, Clear, Preempt, PreemptAndAbort, RegisterAndIgnoreExistingKey, RegisterAndMove, LogSelect, ModeSelect10, ModeSense10, ReportSupportedTaskManagementFunctions}
use Rattle.scsi_cdb.specs.Classes.{class_of_action}
use Rattle.scsi_cdb.specs.declared.profile.Profile.{Profile}
use Rattle.scsi_nexus.specs.declared.nexus.Nexus.{Nexus}
use Rattle.scsi_sense.specs.declared.condition.Condition.{Condition}
use Rattle.scsi_sense.specs.declared.condition.Condition.TheVariants.{InvalidCommandOperationCode, InvalidFieldInCdb, InvalidFieldInParameterList, ParameterListLengthError, SavingParametersNotSupported}
use Rattle.scsi_sense.specs.Conditions.{sense_for}
use Rattle.scsi_sense.specs.declared.status.Status.{Status}
use Rattle.scsi_sense.specs.declared.status.Status.TheVariants.{Good, CheckCondition, ReservationConflict}
use Rattle.unit_attention.specs.declared.kind.Kind.{Kind}
use Rattle.unit_attention.specs.Queues.{has_slot, first_reset_of, first_other_of}
use Rattle.permit_tables.specs.declared.cell.Cell.{Cell}
use Rattle.permit_tables.specs.declared.out_params.OutParams.{OutParams}
use Rattle.pr_core.specs.State.{cell}
use Rattle.pr_core.specs.Outcome.{refusal}
use Rattle.pr_core.specs.declared.verdict.Verdict.TheVariants.{Allowed, Denied, Rule}
use Rattle.audit_log.specs.declared.act.Act.{Act}
use Rattle.audit_log.specs.declared.act.Act.TheVariants.{Command, ReserveOut, Invalid, Loss, Reset, MediumIn, MediumOut}
use Rattle.audit_log.specs.declared.record.Record.{Record}
use Rattle.audit_log.specs.declared.stage.Stage.{Stage}
use Rattle.audit_log.specs.declared.stage.Stage.TheVariants.{Decoding, ResetAttention, ReservationCheck, OtherAttention, Fields, Device}
use Rattle.audit_log.specs.TrailView.{IsNumbered}
use Rattle.device_server.specs.Ends.{told_by}
use Rattle.judgement.specs.declared.decision.Decision.{Decision}
use Rattle.judgement.specs.declared.reply.Reply.{Reply}
use Rattle.judgement.specs.Conditions.{condition_of_attention, condition_of_refusal}
use Rattle.judgement.specs.History.{Accepted, is_good, after_history}
use Rattle.judgement.specs.Decisions.{at_stage, let_in, in_conflict}
use Rattle.judgement.specs.Replies.{good, check, conflict, IsWhole}
use Rattle.judgement.specs.UnitStateView.{UnitStateView}
use Rattle.logical_unit.specs.UnitView.{Base}
use Rattle.judgement.specs.UnitState.{has_room, after_contact, reported, accepted, prevented, allowed, is_prevented, after_telling, with_medium}
use Rattle.judgement.specs.Readings.{verdict_by, pending_of}
use Rattle.judgement.specs.Judge.{waiting}
use Rattle.judgement.specs.UnitState.{kept_after_loss, kept_after_reset}

-- after the report of an attention, where one waits
abbrev pub reported_if : UnitStateView → Nexus → Option Kind → UnitStateView
reported_if k n None = k
reported_if k n (Some kind) = reported k n kind

-- REQUEST SENSE reports as data the attention that waits; PREVENT ALLOW MEDIUM REMOVAL prevents or allows; what another command told is
-- raised for the others
abbrev pub left_by_class : UnitStateView → Nexus → Class → (told : Option Kind) → UnitStateView
left_by_class k n RequestSense told = reported_if k n (pending_of k.slots n)
left_by_class k n PreventRemoval told = prevented k n
left_by_class k n AllowRemoval told = allowed k n
left_by_class k n class told = after_telling k n told

-- what a command leaves that came to stage 6: PERSISTENT RESERVE OUT that is GOOD was accepted
abbrev pub left_by : UnitStateView → Nexus → Option OutParams → Class → Status → (told : Option Kind) → UnitStateView
left_by k n (Some params) class status told = if is_good status then accepted k n params else k
left_by k n None class status told = left_by_class k n class told

-- what a command leaves of what is kept after its contact, by the stage that answered it
abbrev pub left_at : Stage → UnitStateView → Nexus → Option OutParams → Class → Status → (told : Option Kind) → UnitStateView
left_at ResetAttention k n list class status told = reported_if k n (waiting class (first_reset_of k.slots n))
left_at OtherAttention k n list class status told = reported_if k n (waiting class (first_other_of k.slots n))
left_at Device k n list class status told = left_by k n list class status told
left_at stage k n list class status told = k

abbrev pub left_as : UnitStateView → Option Nexus → Act → Stage → Status → (told : Option Kind) → UnitStateView
left_as k (Some n) (Command class) stage status told = left_at stage (after_contact k n) n None class status told
left_as k (Some n) (ReserveOut params) stage status told =
    left_at stage (after_contact k n) n (Some params) (class_of_action params.act) status told
left_as k (Some n) Invalid stage status told = after_contact k n
left_as k (Some n) Loss stage status told = kept_after_loss k n
left_as k None Reset stage status told = kept_after_reset k
left_as k None MediumIn stage status told = with_medium k
left_as k nexus act stage status told = k

-- what is kept after a record, and after records one after another
abbrev pub kept_by : UnitStateView → Record → UnitStateView
kept_by k e = left_as k e.nexus e.act e.stage e.status e.told

abbrev pub kept_after : UnitStateView → List Record → UnitStateView
kept_after k [] = k
kept_after k (e ∷ es) = kept_after (kept_by k e) es

-- a record of this decision and this answer
pub record Says (e : Record) (decision : Decision) (reply : Reply) : Type 0 where
  pub stage : e.stage ≡ decision.stage
  pub cell : e.cell ≡ decision.cell
  pub rule : e.rule ≡ decision.rule
  pub told : e.told ≡ decision.told
  pub status : e.status ≡ reply.status
  pub sense : e.sense ≡ reply.sense

-- only a command that ended GOOD told the others something, and only what its class tells in a profile: a MODE SELECT that it changed the
-- mode parameters
pub record ToldOthers (profile : Profile) (e : Record) (asked : Class) (kind : Kind) : Type 0 where
  pub class : told_by profile asked ≡ Some kind
  pub stage : e.stage ≡ Device
  pub status : e.status ≡ Good

-- the commands that the unit carries out itself, whose data or act is GOOD once their fields are right
abbrev pub is_of_every_unit : Class → Bool
is_of_every_unit Inquiry = true
is_of_every_unit ReportLuns = true
is_of_every_unit RequestSense = true
is_of_every_unit PersistentReserveIn = true
is_of_every_unit PreventRemoval = true
is_of_every_unit AllowRemoval = true
is_of_every_unit class = false

-- what may be reported of the fields of a CDB: 24h/00h; of MODE SENSE also 39h/00h; of MODE SELECT and LOG SELECT also 1Ah/00h and 26h/00h, of
-- their lists
abbrev pub is_of_cdb : Condition → Bool
is_of_cdb InvalidFieldInCdb = true
is_of_cdb condition = false

abbrev pub is_of_mode_sense : Condition → Bool
is_of_mode_sense InvalidFieldInCdb = true
is_of_mode_sense SavingParametersNotSupported = true
is_of_mode_sense condition = false

abbrev pub is_of_mode_select : Condition → Bool
is_of_mode_select InvalidFieldInCdb = true
is_of_mode_select ParameterListLengthError = true
is_of_mode_select InvalidFieldInParameterList = true
is_of_mode_select condition = false

-- and so of the fields of each command other than PERSISTENT RESERVE OUT: nothing of those that no field refuses
abbrev pub is_field_fault : Class → Condition → Bool
is_field_fault TestUnitReady condition = false
is_field_fault Rewind condition = false
is_field_fault ReadBlockLimits condition = false
is_field_fault InitializeElementStatus condition = false
is_field_fault Erase condition = false
is_field_fault ReadPosition condition = false
is_field_fault PersistentReserveIn condition = false
is_field_fault AllowRemoval condition = false
is_field_fault ReportSupportedTaskManagementFunctions condition = false
is_field_fault ModeSense condition = is_of_mode_sense condition
is_field_fault ModeSense10 condition = is_of_mode_sense condition
is_field_fault ModeSelect condition = is_of_mode_select condition
is_field_fault ModeSelect10 condition = is_of_mode_select condition
is_field_fault LogSelect condition = is_of_mode_select condition
is_field_fault class condition = is_of_cdb condition

-- fields that are refused: CHECK CONDITION with the sense data of such a condition
pub record RefusesFields (e : Record) (class : Class) : Type 0 where
  pub condition : Condition
  pub of_class : is_field_fault class condition ≡ true
  pub status : e.status ≡ CheckCondition
  pub sense : e.sense ≡ Some (sense_for condition)

-- which of stages 5 and 6 a command other than PERSISTENT RESERVE OUT comes to, and what it is answered there, is its own or the
-- device's; but its fields are refused as its class allows, and it is GOOD exactly without sense data
pub record SaysItsOwn (profile : Profile) (e : Record) (at : Cell) : Type 0 where
  pub stage : (e.stage ≡ Fields) ⊎ (e.stage ≡ Device)
  pub cell : e.cell ≡ Some at
  pub rule : e.rule ≡ None
  pub whole : IsWhole e.status e.sense
  pub fields : e.stage ≡ Fields → RefusesFields e at.class
  pub unit : is_of_every_unit at.class ≡ true → e.stage ≡ Device → e.status ≡ Good
  pub told : (kind : Kind) → e.told ≡ Some kind → ToldOthers profile e at.class kind

-- stages 5 and 6
abbrev pub IsCarriedOut : UnitStateView → Nexus → Option OutParams → Class → Record → Type 0
IsCarriedOut k n (Some params) class e = elim (refusal k.reservations n params) [
  | Some fault ↦ Says e (let_in (cell k.reservations n class) Fields) (check (condition_of_refusal fault))
  | None ↦ Says e (let_in (cell k.reservations n class) Device) (good [])
]
IsCarriedOut k n None class e = SaysItsOwn k.profile e (cell k.reservations n class)

-- stage 4
abbrev pub IsLetThrough : UnitStateView → Nexus → Option OutParams → Class → Record → Type 0
IsLetThrough k n list class e = elim (waiting class (first_other_of k.slots n)) [
  | Some kind ↦ Says e (let_in (cell k.reservations n class) OtherAttention) (check (condition_of_attention kind))
  | None ↦ IsCarriedOut k n list class e
]

-- stage 3
abbrev pub IsChecked : UnitStateView → Nexus → Option OutParams → Class → Record → Type 0
IsChecked k n list class e = elim (verdict_by k.reservations n list class) [
  | Allowed ↦ IsLetThrough k n list class e
  | Denied at ↦ Says e (in_conflict (cell k.reservations n class) None) conflict
  | Rule rule ↦ Says e (in_conflict (cell k.reservations n class) (Some rule)) conflict
]

-- stage 2, from what is kept after the contact
abbrev pub IsCommand : UnitStateView → Nexus → Option OutParams → Class → Record → Type 0
IsCommand k n list class e = elim (waiting class (first_reset_of k.slots n)) [
  | Some kind ↦ Says e (at_stage ResetAttention) (check (condition_of_attention kind))
  | None ↦ IsChecked k n list class e
]

-- the classes of PERSISTENT RESERVE OUT, whose records have its list
abbrev pub is_reserve_out : Class → Bool
is_reserve_out Register = true
is_reserve_out Reserve = true
is_reserve_out Release = true
is_reserve_out Clear = true
is_reserve_out Preempt = true
is_reserve_out PreemptAndAbort = true
is_reserve_out RegisterAndIgnoreExistingKey = true
is_reserve_out RegisterAndMove = true
is_reserve_out class = false

-- what is reported of bytes that decode to no command: 20h/00h, 24h/00h, or 1Ah/00h
abbrev pub is_of_decoding : Condition → Bool
is_of_decoding InvalidCommandOperationCode = true
is_of_decoding InvalidFieldInCdb = true
is_of_decoding ParameterListLengthError = true
is_of_decoding condition = false

-- a command of a sender that has a slot or finds one, of a class other than those of PERSISTENT RESERVE OUT
pub record IsOfClass (k : UnitStateView) (n : Nexus) (class : Class) (e : Record) : Type 0 where
  pub room : has_room k n ≡ true
  pub listless : is_reserve_out class ≡ false
  pub judged : IsCommand (after_contact k n) n None class e

-- PERSISTENT RESERVE OUT with its list
pub record IsOfList (k : UnitStateView) (n : Nexus) (params : OutParams) (e : Record) : Type 0 where
  pub room : has_room k n ≡ true
  pub judged : IsCommand (after_contact k n) n (Some params) (class_of_action params.act) e

-- stage 1: bytes that decode to no command
pub record IsInvalid (k : UnitStateView) (n : Nexus) (e : Record) : Type 0 where
  pub room : has_room k n ≡ true
  pub condition : Condition
  pub decoding : is_of_decoding condition ≡ true
  pub says : Says e (at_stage Decoding) (check condition)

-- the loss of a nexus that has a slot
pub record IsLoss (k : UnitStateView) (n : Nexus) (e : Record) : Type 0 where
  pub slot : has_slot k.slots n ≡ true
  pub says : Says e (at_stage Device) (good [])

-- a volume taken out, which nobody prevents
pub record IsTakenOut (k : UnitStateView) (e : Record) : Type 0 where
  pub free : is_prevented k ≡ false
  pub says : Says e (at_stage Device) (good [])

-- by what was asked; what isn't a command is GOOD at stage 6
abbrev pub IsJudgedAs : UnitStateView → Option Nexus → Act → Record → Type 0
IsJudgedAs k (Some n) (Command class) e = IsOfClass k n class e
IsJudgedAs k (Some n) (ReserveOut params) e = IsOfList k n params e
IsJudgedAs k (Some n) Invalid e = IsInvalid k n e
IsJudgedAs k (Some n) Loss e = IsLoss k n e
IsJudgedAs k None Reset e = Says e (at_stage Device) (good [])
IsJudgedAs k None MediumIn e = Says e (at_stage Device) (good [])
IsJudgedAs k None MediumOut e = IsTakenOut k e
IsJudgedAs k nexus act e = ⊥

-- a record is what judgement gives of what was kept before it
abbrev pub IsJudged : UnitStateView → Record → Type 0
IsJudged k e = IsJudgedAs k e.nexus e.act e

abbrev pub AreJudged : UnitStateView → List Record → Type 0
AreJudged k [] = Unit {0}
AreJudged k (e ∷ es) = IsJudged k e × AreJudged (kept_by k e) es

-- a legal trail: the records from a base, with what is kept after them
pub record IsTrail (base : Base) (es : List Record) (now : UnitStateView) : Type 0 where
  pub numbered : IsNumbered base.last es
  pub judged : AreJudged base.state es
  pub present : now ≡ kept_after base.state es

-- in a legal trail RESERVATION CONFLICT stands exactly at stage 3
abbrev pub ConflictsAtTheCheck : Type 0
ConflictsAtTheCheck = (base : Base) (es : List Record) (now : UnitStateView) → IsTrail base es now
    → All (λ e. (e.status ≡ ReservationConflict) ↔ (e.stage ≡ ReservationCheck)) es

-- a PERSISTENT RESERVE OUT command that ended GOOD, of its sender
abbrev pub accepted_of : Option Nexus → Act → Status → List Accepted
accepted_of (Some n) (ReserveOut params) status = if is_good status then (n, params) ∷ [] else []
accepted_of nexus act status = []

-- what a record adds to the accepted history
abbrev pub accepted_in : Record → List Accepted
accepted_in e = accepted_of e.nexus e.act e.status

-- and so the history that records show, oldest first
abbrev pub shown_history : List Record → List Accepted
shown_history es = flat_map accepted_in es

-- in a legal trail the registrations, the reservation and the generation now are those of the base and that history
abbrev pub TrailHistory : Type 0
TrailHistory = (base : Base) (es : List Record) (now : UnitStateView) → IsTrail base es now
    → now.reservations ≡ after_history base.state.reservations (shown_history es)
