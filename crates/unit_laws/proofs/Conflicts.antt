-- In a legal trail a conflict stands exactly at the reservation check.
use Rattle.std.proofs.Common.{◌≡◌, ◌≢◌, zero, suc, List, [], ◌∷◌, Option, Some, None, refl, sym, ◌∙◌, inl, inr, arith}
use Rattle.std.specs.Prelude.{◌↔◌, ◌⊎◌}
use Rattle.std.specs.List.{All}
use Rattle.scsi_cdb.specs.declared.classes.Class.{Class}
use Rattle.scsi_cdb.specs.declared.profile.Profile.{Profile}
use Rattle.scsi_cdb.specs.Classes.{class_of_action}
use Rattle.scsi_nexus.specs.declared.nexus.Nexus.{Nexus}
use Rattle.scsi_sense.specs.declared.status.Status.TheVariants.{ReservationConflict}
use Rattle.unit_attention.specs.declared.kind.Kind.{Kind}
use Rattle.unit_attention.specs.Queues.{first_reset_of, first_other_of}
use Rattle.permit_tables.specs.declared.cell.Cell.{Cell}
use Rattle.permit_tables.specs.declared.out_params.OutParams.{OutParams}
use Rattle.pr_core.specs.State.{cell}
use Rattle.pr_core.specs.Outcome.{refusal}
use Rattle.permit_tables.specs.declared.pr_fault.PrFault.{PrFault}
use Rattle.pr_core.specs.declared.verdict.Verdict.{Verdict}
use Rattle.pr_core.specs.declared.verdict.Verdict.TheVariants.{Allowed, Denied, Rule}
use Rattle.audit_log.specs.declared.act.Act.{Act}
use Rattle.audit_log.specs.declared.act.Act.TheVariants.{Command, ReserveOut, Invalid, Loss, Reset, MediumIn, MediumOut}
use Rattle.audit_log.specs.declared.record.Record.{Record}
use Rattle.audit_log.specs.declared.stage.Stage.TheVariants.{ResetAttention, ReservationCheck, OtherAttention, Fields, Device}
use Rattle.judgement.specs.declared.decision.Decision.{Decision}
use Rattle.judgement.specs.declared.reply.Reply.{Reply}
use Rattle.judgement.specs.Conditions.{condition_of_attention, condition_of_refusal}
use Rattle.judgement.specs.Decisions.{at_stage, let_in, in_conflict}
use Rattle.judgement.specs.Replies.{conflict, check, good, IsWhole}
use Rattle.judgement.specs.UnitStateView.{UnitStateView}
use Rattle.judgement.specs.UnitState.{after_contact}
use Rattle.judgement.specs.Readings.{verdict_by}
use Rattle.judgement.specs.Judge.{waiting}
use Rattle.logical_unit.specs.Legal.{kept_by, Says, SaysItsOwn, IsCarriedOut, IsLetThrough, IsChecked, IsCommand, IsJudgedAs, AreJudged, ConflictsAtTheCheck}

abbrev pub AtTheCheck : Record → Type 0
AtTheCheck e = (e.status ≡ ReservationConflict) ↔ (e.stage ≡ ReservationCheck)

elsewhere : (e : Record) (f : Decision) (r : Reply) → r.status ≢ ReservationConflict → f.stage ≢ ReservationCheck → Says e f r → AtTheCheck e
elsewhere e f r a b s = (λ h. absurd (a (sym s.status ∙ h)), λ h. absurd (b (sym s.stage ∙ h)))

conflicting : (e : Record) (f : Decision) → f.stage ≡ ReservationCheck → Says e f conflict → AtTheCheck e
conflicting e f b s = (λ h. s.stage ∙ b, λ h. s.status)

own_stage : (e : Record) → (e.stage ≡ Fields) ⊎ (e.stage ≡ Device) → e.stage ≢ ReservationCheck
own_stage e (inl a) h = cc
own_stage e (inr a) h = cc

whole_no_conflict : (e : Record) → IsWhole e.status e.sense → e.status ≢ ReservationConflict
whole_no_conflict e (inl a) h = let is = a.0 in cc
whole_no_conflict e (inr a) h = let is = a.0 in cc

own : (profile : Profile) (e : Record) (at : Cell) → SaysItsOwn profile e at → AtTheCheck e
own profile e at s = (λ h. absurd (whole_no_conflict e s.whole h), λ h. absurd (own_stage e s.stage h))

carried : (k : UnitStateView) (n : Nexus) (list : Option OutParams) (class : Class) (e : Record) → IsCarriedOut k n list class e → AtTheCheck e
carried k n None class e = own k.profile e (cell k.reservations n class)
carried k n (Some params) class e =
    let at = cell k.reservations n class in
    elim (refusal k.reservations n params) as (λ (o : Option PrFault). (elim o [ Some fault ↦ Says e (let_in at Fields) (check (condition_of_refusal fault)) | None ↦ Says e (let_in at Device) (good []) ]) → AtTheCheck e) [
      | Some fault ↦ elsewhere e (let_in at Fields) (check (condition_of_refusal fault)) (λ h. cc) (λ h. cc)
      | None ↦ elsewhere e (let_in at Device) (good []) (λ h. cc) (λ h. cc)
    ]

let_through : (k : UnitStateView) (n : Nexus) (list : Option OutParams) (class : Class) (e : Record) → IsLetThrough k n list class e → AtTheCheck e
let_through k n list class e =
    let at = cell k.reservations n class in
    elim (waiting class (first_other_of k.slots n)) as (λ (o : Option Kind). (elim o [ Some kind ↦ Says e (let_in at OtherAttention) (check (condition_of_attention kind)) | None ↦ IsCarriedOut k n list class e ]) → AtTheCheck e) [
      | Some kind ↦ elsewhere e (let_in at OtherAttention) (check (condition_of_attention kind)) (λ h. cc) (λ h. cc)
      | None ↦ carried k n list class e
    ]

checked : (k : UnitStateView) (n : Nexus) (list : Option OutParams) (class : Class) (e : Record) → IsChecked k n list class e → AtTheCheck e
checked k n list class e =
    let at = cell k.reservations n class in
    elim (verdict_by k.reservations n list class) as (λ (v : Verdict). (elim v [ Allowed ↦ IsLetThrough k n list class e | Denied d ↦ Says e (in_conflict at None) conflict | Rule rule ↦ Says e (in_conflict at (Some rule)) conflict ]) → AtTheCheck e) [
      | Allowed ↦ let_through k n list class e
      | Denied d ↦ conflicting e (in_conflict at None) refl
      | Rule rule ↦ conflicting e (in_conflict at (Some rule)) refl
    ]

commanded : (k : UnitStateView) (n : Nexus) (list : Option OutParams) (class : Class) (e : Record) → IsCommand k n list class e → AtTheCheck e
commanded k n list class e =
    elim (waiting class (first_reset_of k.slots n)) as (λ (o : Option Kind). (elim o [ Some kind ↦ Says e (at_stage ResetAttention) (check (condition_of_attention kind)) | None ↦ IsChecked k n list class e ]) → AtTheCheck e) [
      | Some kind ↦ elsewhere e (at_stage ResetAttention) (check (condition_of_attention kind)) (λ h. cc) (λ h. cc)
      | None ↦ checked k n list class e
    ]

judged : (k : UnitStateView) (nexus : Option Nexus) (act : Act) (e : Record) → IsJudgedAs k nexus act e → AtTheCheck e
judged k (Some n) (Command class) e j = commanded (after_contact k n) n None class e j.judged
judged k (Some n) (ReserveOut params) e j = commanded (after_contact k n) n (Some params) (class_of_action params.act) e j.judged
judged k (Some n) Invalid e j = elsewhere e _ (check j.condition) (λ h. cc) (λ h. cc) j.says
judged k (Some n) Loss e j = elsewhere e _ (good []) (λ h. cc) (λ h. cc) j.says
judged k (Some n) Reset e j = absurd j
judged k (Some n) MediumIn e j = absurd j
judged k (Some n) MediumOut e j = absurd j
judged k None (Command class) e j = absurd j
judged k None (ReserveOut params) e j = absurd j
judged k None Invalid e j = absurd j
judged k None Loss e j = absurd j
judged k None Reset e j = elsewhere e _ (good []) (λ h. cc) (λ h. cc) j
judged k None MediumIn e j = elsewhere e _ (good []) (λ h. cc) (λ h. cc) j
judged k None MediumOut e j = elsewhere e _ (good []) (λ h. cc) (λ h. cc) j.says

all : (k : UnitStateView) (es : List Record) → AreJudged k es → All AtTheCheck es
all k [] j place d within = absurd (omega (arith, within))
all k (e ∷ es) j zero d within = judged k e.nexus e.act e j.0
all k (e ∷ es) j (suc place) d within = all (kept_by k e) es j.1 place d (omega (arith, within))

pub conflicts : ConflictsAtTheCheck
conflicts base es now trail = all base.state es trail.judged
