-- In a legal trail each record changes the registrations, the reservation and the generation as the accepted history says.
use Rattle.std.proofs.Common.{◌≡◌, ◌≢◌, List, [], ◌∷◌, ◌++◌, Option, Some, None, refl, sym, ap, ◌∙◌}
use Rattle.scsi_cdb.specs.declared.classes.Class.{Class}
use Rattle.scsi_cdb.specs.declared.classes.Class.TheVariants as class
use Rattle.scsi_cdb.specs.Classes.{class_of_action}
use Rattle.scsi_nexus.specs.declared.nexus.Nexus.{Nexus}
use Rattle.scsi_sense.specs.declared.status.Status.{Status}
use Rattle.scsi_sense.specs.declared.status.Status.TheVariants.{Good, CheckCondition, Busy, ReservationConflict}
use Rattle.unit_attention.specs.declared.kind.Kind.{Kind}
use Rattle.unit_attention.specs.Queues.{first_reset_of, first_other_of}
use Rattle.permit_tables.specs.declared.out_params.OutParams.{OutParams}
use Rattle.pr_core.specs.State.{State, cell}
use Rattle.pr_core.specs.Outcome.{applied, refusal}
use Rattle.permit_tables.specs.declared.pr_fault.PrFault.{PrFault}
use Rattle.pr_core.specs.declared.verdict.Verdict.{Verdict}
use Rattle.pr_core.specs.declared.verdict.Verdict.TheVariants.{Allowed, Denied, Rule}
use Rattle.audit_log.specs.declared.act.Act.{Act}
use Rattle.audit_log.specs.declared.act.Act.TheVariants.{Command, ReserveOut, Invalid, Loss, Reset, MediumIn, MediumOut}
use Rattle.audit_log.specs.declared.record.Record.{Record}
use Rattle.audit_log.specs.declared.stage.Stage.{Stage}
use Rattle.audit_log.specs.declared.stage.Stage.TheVariants.{Decoding, ResetAttention, ReservationCheck, OtherAttention, Fields, Device}
use Rattle.judgement.specs.Conditions.{condition_of_attention, condition_of_refusal}
use Rattle.judgement.specs.Replies.{conflict, check, good}
use Rattle.judgement.specs.UnitStateView.{UnitStateView}
use Rattle.judgement.specs.UnitState.{after_contact, after_telling}
use Rattle.judgement.specs.Readings.{verdict_by, pending_of}
use Rattle.judgement.specs.Decisions.{at_stage, let_in, in_conflict}
use Rattle.judgement.specs.History.{Accepted, after_history}
use Rattle.judgement.specs.Judge.{waiting}
use Rattle.logical_unit.specs.Legal.{reported_if, left_by_class, left_at, left_as, kept_by, kept_after, Says, IsCarriedOut, IsLetThrough, IsChecked, IsCommand, IsJudgedAs, AreJudged, accepted_of, accepted_in, shown_history, TrailHistory}

reported_leaves : (k : UnitStateView) (n : Nexus) (o : Option Kind) → (reported_if k n o).reservations ≡ k.reservations
reported_leaves k n None = refl
reported_leaves k n (Some kind) = refl

telling_leaves : (k : UnitStateView) (n : Nexus) (told : Option Kind) → (after_telling k n told).reservations ≡ k.reservations
telling_leaves k n None = refl
telling_leaves k n (Some kind) = refl

-- a command without a list leaves the reservations
class_leaves : (k : UnitStateView) (n : Nexus) (class : Class) (told : Option Kind) → (left_by_class k n class told).reservations ≡ k.reservations
class_leaves k n class.RequestSense told = reported_leaves k n (pending_of k.slots n)
class_leaves k n class.PreventRemoval told = refl
class_leaves k n class.AllowRemoval told = refl
class_leaves k n class told = telling_leaves k n told

listless_leaves : (stage : Stage) (k : UnitStateView) (n : Nexus) (class : Class) (s : Status) (told : Option Kind) → (left_at stage k n None class s told).reservations ≡ k.reservations
listless_leaves ResetAttention k n class s told = reported_leaves k n (waiting class (first_reset_of k.slots n))
listless_leaves OtherAttention k n class s told = reported_leaves k n (waiting class (first_other_of k.slots n))
listless_leaves Device k n class s told = class_leaves k n class told
listless_leaves Decoding k n class s told = refl
listless_leaves ReservationCheck k n class s told = refl
listless_leaves Fields k n class s told = refl

-- PERSISTENT RESERVE OUT that is GOOD came to the last stage
GoodAtDevice : Record → Type 0
GoodAtDevice e = e.status ≡ Good → e.stage ≡ Device

not_good : (e : Record) (stage : Stage) (status : Status) → status ≢ Good → e.status ≡ status → e.status ≡ Good → e.stage ≡ Device
not_good e stage status h is good = absurd (h (sym is ∙ good))

module _ (k : UnitStateView) (n : Nexus) (p : OutParams) (class : Class) (e : Record) where
  carried : IsCarriedOut k n (Some p) class e → e.status ≡ Good → e.stage ≡ Device
  carried =
      let at = cell k.reservations n class in
      elim (refusal k.reservations n p) as (λ (o : Option PrFault). (elim o [ Some fault ↦ Says e (let_in at Fields) (check (condition_of_refusal fault)) | None ↦ Says e (let_in at Device) (good []) ]) → e.status ≡ Good → e.stage ≡ Device) [
        | Some fault ↦ λ s g. let is = s.status in absurd cc
        | None ↦ λ s g. s.stage
      ]

  let_through : IsLetThrough k n (Some p) class e → e.status ≡ Good → e.stage ≡ Device
  let_through =
      let at = cell k.reservations n class in
      elim (waiting class (first_other_of k.slots n)) as (λ (o : Option Kind). (elim o [ Some kind ↦ Says e (let_in at OtherAttention) (check (condition_of_attention kind)) | None ↦ IsCarriedOut k n (Some p) class e ]) → e.status ≡ Good → e.stage ≡ Device) [
        | Some kind ↦ λ s g. let is = s.status in absurd cc
        | None ↦ carried
      ]

  checked : IsChecked k n (Some p) class e → e.status ≡ Good → e.stage ≡ Device
  checked =
      let at = cell k.reservations n class in
      elim (verdict_by k.reservations n (Some p) class) as (λ (v : Verdict). (elim v [ Allowed ↦ IsLetThrough k n (Some p) class e | Denied d ↦ Says e (in_conflict at None) conflict | Rule rule ↦ Says e (in_conflict at (Some rule)) conflict ]) → e.status ≡ Good → e.stage ≡ Device) [
        | Allowed ↦ let_through
        | Denied d ↦ λ s g. let is = s.status in absurd cc
        | Rule rule ↦ λ s g. let is = s.status in absurd cc
      ]

  commanded : IsCommand k n (Some p) class e → e.status ≡ Good → e.stage ≡ Device
  commanded =
      elim (waiting class (first_reset_of k.slots n)) as (λ (o : Option Kind). (elim o [ Some kind ↦ Says e (at_stage ResetAttention) (check (condition_of_attention kind)) | None ↦ IsChecked k n (Some p) class e ]) → e.status ≡ Good → e.stage ≡ Device) [
        | Some kind ↦ λ s g. let is = s.status in absurd cc
        | None ↦ checked
      ]

-- one with a list changes them as the history says
list_leaves : (stage : Stage) (k : UnitStateView) (n : Nexus) (p : OutParams) (class : Class) (s : Status) (told : Option Kind) → (s ≡ Good → stage ≡ Device)
    → (left_at stage k n (Some p) class s told).reservations ≡ after_history k.reservations (accepted_of (Some n) (ReserveOut p) s)
list_leaves Device k n p class Good told h = refl
list_leaves Device k n p class CheckCondition told h = refl
list_leaves Device k n p class Busy told h = refl
list_leaves Device k n p class ReservationConflict told h = refl
list_leaves ResetAttention k n p class Good told h = absurd (let is = h refl in cc)
list_leaves ResetAttention k n p class CheckCondition told h = reported_leaves k n (waiting class (first_reset_of k.slots n))
list_leaves ResetAttention k n p class Busy told h = reported_leaves k n (waiting class (first_reset_of k.slots n))
list_leaves ResetAttention k n p class ReservationConflict told h = reported_leaves k n (waiting class (first_reset_of k.slots n))
list_leaves OtherAttention k n p class Good told h = absurd (let is = h refl in cc)
list_leaves OtherAttention k n p class CheckCondition told h = reported_leaves k n (waiting class (first_other_of k.slots n))
list_leaves OtherAttention k n p class Busy told h = reported_leaves k n (waiting class (first_other_of k.slots n))
list_leaves OtherAttention k n p class ReservationConflict told h = reported_leaves k n (waiting class (first_other_of k.slots n))
list_leaves Decoding k n p class Good told h = absurd (let is = h refl in cc)
list_leaves Decoding k n p class CheckCondition told h = refl
list_leaves Decoding k n p class Busy told h = refl
list_leaves Decoding k n p class ReservationConflict told h = refl
list_leaves ReservationCheck k n p class Good told h = absurd (let is = h refl in cc)
list_leaves ReservationCheck k n p class CheckCondition told h = refl
list_leaves ReservationCheck k n p class Busy told h = refl
list_leaves ReservationCheck k n p class ReservationConflict told h = refl
list_leaves Fields k n p class Good told h = absurd (let is = h refl in cc)
list_leaves Fields k n p class CheckCondition told h = refl
list_leaves Fields k n p class Busy told h = refl
list_leaves Fields k n p class ReservationConflict told h = refl

-- one record
pub one_shows : (k : UnitStateView) (nexus : Option Nexus) (act : Act) (e : Record) → IsJudgedAs k nexus act e
    → (left_as k nexus act e.stage e.status e.told).reservations ≡ after_history k.reservations (accepted_of nexus act e.status)
one_shows k (Some n) (Command class) e j = listless_leaves e.stage (after_contact k n) n class e.status e.told
one_shows k (Some n) (ReserveOut p) e j = list_leaves e.stage (after_contact k n) n p (class_of_action p.act) e.status e.told (commanded (after_contact k n) n p (class_of_action p.act) e j.judged)
one_shows k (Some n) Invalid e j = refl
one_shows k (Some n) Loss e j = refl
one_shows k (Some n) Reset e j = absurd j
one_shows k (Some n) MediumIn e j = absurd j
one_shows k (Some n) MediumOut e j = absurd j
one_shows k None (Command class) e j = absurd j
one_shows k None (ReserveOut params) e j = absurd j
one_shows k None Invalid e j = absurd j
one_shows k None Loss e j = absurd j
one_shows k None Reset e j = refl
one_shows k None MediumIn e j = refl
one_shows k None MediumOut e j = refl

after-append : (v : State) (a b : List Accepted) → after_history v (a ++ b) ≡ after_history (after_history v a) b
after-append v [] b = refl
after-append v (x ∷ a) b = after-append (applied v x.0 x.1) a b

all_show : (k : UnitStateView) (es : List Record) → AreJudged k es → (kept_after k es).reservations ≡ after_history k.reservations (shown_history es)
all_show k [] j = refl
all_show k (e ∷ es) j =
    all_show (kept_by k e) es j.1 ∙ ap (λ v. after_history v (shown_history es)) (one_shows k e.nexus e.act e j.0)
    ∙ sym (after-append k.reservations (accepted_in e) (shown_history es))

pub trail_shows : TrailHistory
trail_shows base es now trail = ap (λ (v : UnitStateView). v.reservations) trail.present ∙ all_show base.state es trail.judged
