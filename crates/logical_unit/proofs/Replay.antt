-- What a legal trail accepted may be carried out again, and leaves what stood before each record.
use Rattle.std.proofs.Common.{◌≡◌, ℕ, zero, suc, List, [], ◌∷◌, Option, Some, None, refl, sym, ap, ◌∙◌, subst}
use Rattle.std.specs.Prelude.{slice_get, take}
use Rattle.scsi_cdb.specs.declared.classes.Class.{Class}
use Rattle.scsi_cdb.specs.Classes.{class_of_action}
use Rattle.scsi_nexus.specs.declared.nexus.Nexus.{Nexus}
use Rattle.scsi_sense.specs.declared.status.Status.{Status}
use Rattle.scsi_sense.specs.declared.status.Status.TheVariants.{Good, CheckCondition, Busy, ReservationConflict}
use Rattle.unit_attention.specs.declared.kind.Kind.{Kind}
use Rattle.unit_attention.specs.Queues.{first_reset_of, first_other_of}
use Rattle.permit_tables.specs.declared.out_params.OutParams.{OutParams}
use Rattle.pr_core.specs.State.{State, cell}
use Rattle.pr_core.specs.Judge.{verdict}
use Rattle.pr_core.specs.Outcome.{refusal}
use Rattle.permit_tables.specs.declared.pr_fault.PrFault.{PrFault}
use Rattle.pr_core.specs.declared.verdict.Verdict.{Verdict}
use Rattle.pr_core.specs.declared.verdict.Verdict.TheVariants.{Allowed, Denied, Rule}
use Rattle.audit_log.specs.declared.act.Act.{Act}
use Rattle.audit_log.specs.declared.act.Act.TheVariants.{Command, ReserveOut, Invalid, Loss, Reset, MediumIn, MediumOut}
use Rattle.audit_log.specs.declared.record.Record.{Record}
use Rattle.audit_log.specs.declared.stage.Stage.TheVariants.{ResetAttention, OtherAttention, Fields, Device}
use Rattle.judgement.specs.Conditions.{condition_of_attention, condition_of_refusal}
use Rattle.judgement.specs.Replies.{conflict, check, good}
use Rattle.judgement.specs.UnitStateView.{UnitStateView}
use Rattle.judgement.specs.UnitState.{after_contact}
use Rattle.judgement.specs.Decisions.{at_stage, let_in, in_conflict}
use Rattle.judgement.specs.Judge.{waiting}
use Rattle.logical_unit.specs.Audit.{span_line, span_lines, ShowsReservations, IsReplayable, AreReplayable, TrailsReplay}
use Rattle.logical_unit.specs.Legal.{Says, IsCarriedOut, IsLetThrough, IsChecked, IsCommand, IsJudgedAs, AreJudged, accepted_of, kept_by, kept_after}
use Rattle.logical_unit.proofs.HistoryOfRecords.{one_shows}

-- a PERSISTENT RESERVE OUT that is GOOD was allowed and not refused
module _ (k : UnitStateView) (n : Nexus) (p : OutParams) (class : Class) (e : Record) (is : e.status ≡ Good) where
  by_refusal : IsCarriedOut k n (Some p) class e → refusal k.reservations n p ≡ None
  by_refusal =
      let at = cell k.reservations n class in
      elim (refusal k.reservations n p) as (λ (o : Option PrFault). (elim o [ Some fault ↦ Says e (let_in at Fields) (check (condition_of_refusal fault)) | None ↦ Says e (let_in at Device) (good []) ]) → o ≡ None) [
        | Some fault ↦ λ s. let was = s.status in absurd cc
        | None ↦ λ s. refl
      ]

  by_attention : IsLetThrough k n (Some p) class e → refusal k.reservations n p ≡ None
  by_attention =
      let at = cell k.reservations n class in
      elim (waiting class (first_other_of k.slots n)) as (λ (o : Option Kind). (elim o [ Some kind ↦ Says e (let_in at OtherAttention) (check (condition_of_attention kind)) | None ↦ IsCarriedOut k n (Some p) class e ]) → refusal k.reservations n p ≡ None) [
        | Some kind ↦ λ s. let was = s.status in absurd cc
        | None ↦ by_refusal
      ]

  by_check : IsChecked k n (Some p) class e → (verdict k.reservations n p ≡ Allowed) × (refusal k.reservations n p ≡ None)
  by_check =
      let at = cell k.reservations n class in
      elim (verdict k.reservations n p) as (λ (v : Verdict). (elim v [ Allowed ↦ IsLetThrough k n (Some p) class e | Denied d ↦ Says e (in_conflict at None) conflict | Rule rule ↦ Says e (in_conflict at (Some rule)) conflict ])
      → (v ≡ Allowed) × (refusal k.reservations n p ≡ None)) [
        | Allowed ↦ λ s. (refl, by_attention s)
        | Denied d ↦ λ s. let was = s.status in absurd cc
        | Rule rule ↦ λ s. let was = s.status in absurd cc
      ]

  by_command : IsCommand k n (Some p) class e → (verdict k.reservations n p ≡ Allowed) × (refusal k.reservations n p ≡ None)
  by_command =
      elim (waiting class (first_reset_of k.slots n)) as (λ (o : Option Kind). (elim o [ Some kind ↦ Says e (at_stage ResetAttention) (check (condition_of_attention kind)) | None ↦ IsChecked k n (Some p) class e ])
      → (verdict k.reservations n p ≡ Allowed) × (refusal k.reservations n p ≡ None)) [
        | Some kind ↦ λ s. let was = s.status in absurd cc
        | None ↦ by_check
      ]

replay_out : (k : UnitStateView) (e : Record) (n : Nexus) (p : OutParams) (status : Status) → e.status ≡ status → IsCommand (after_contact k n) n (Some p) (class_of_action p.act) e → IsReplayable k.reservations (accepted_of (Some n) (ReserveOut p) status)
replay_out k e n p Good is h = by_command (after_contact k n) n p (class_of_action p.act) e is h
replay_out k e n p CheckCondition is h = tt
replay_out k e n p Busy is h = tt
replay_out k e n p ReservationConflict is h = tt

replay_as : (k : UnitStateView) (e : Record) (n : Option Nexus) (a : Act) → IsJudgedAs k n a e → IsReplayable k.reservations (accepted_of n a e.status)
replay_as k e (Some n) (Command class) h = tt
replay_as k e (Some n) (ReserveOut p) h = replay_out k e n p e.status refl h.judged
replay_as k e (Some n) Invalid h = tt
replay_as k e (Some n) Loss h = tt
replay_as k e (Some n) Reset h = tt
replay_as k e (Some n) MediumIn h = tt
replay_as k e (Some n) MediumOut h = tt
replay_as k e None a h = tt

judged_replay : (k : UnitStateView) (es : List Record) → AreJudged k es → AreReplayable k.reservations es
judged_replay k [] h = tt
judged_replay k (e ∷ es) h = (replay_as k e e.nexus e.act h.0, subst (λ (v : State). AreReplayable v es) (one_shows k e.nexus e.act e h.0) (judged_replay (kept_by k e) es h.1))

pub trails_replay : TrailsReplay
trails_replay base es now trail = judged_replay base.state es trail.judged

-- the walk's step is that of the trail
judged_show : (k : UnitStateView) (es : List Record) (place : ℕ) (e : Record) → AreJudged k es → slice_get es place ≡ Some e → slice_get (span_lines k.reservations es) place ≡ Some (span_line (kept_after k (take place es)).reservations e)
judged_show k [] place e j h = cc
judged_show k (x ∷ es) zero e j h = ap (λ (o : Option Record). elim o [ None ↦ None | Some r ↦ Some (span_line k.reservations r) ]) h
judged_show k (x ∷ es) (suc place) e j h =
    ap (λ (v : State). slice_get (span_lines v es) place) (sym (one_shows k x.nexus x.act x j.0)) ∙ judged_show (kept_by k x) es place e j.1 h

pub shows_reservations : ShowsReservations
shows_reservations base es now place e trail h = judged_show base.state es place e trail.judged h
