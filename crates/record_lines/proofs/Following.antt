-- Followed by the records of a legal trail, reservations are those that its unit keeps.
use Rattle.std.proofs.Common.{◌≡◌, List, [], ◌∷◌, ◌++◌, Option, Some, None, refl, sym, ap, ◌∙◌, subst}
use Rattle.scsi_nexus.specs.declared.nexus.Nexus.{Nexus}
use Rattle.scsi_sense.specs.declared.status.Status.{Status}
use Rattle.scsi_sense.specs.declared.status.Status.TheVariants.{Good, CheckCondition, Busy, ReservationConflict}
use Rattle.permit_tables.specs.declared.pr_fault.PrFault.{PrFault}
use Rattle.pr_core.specs.State.{State}
use Rattle.pr_core.specs.Judge.{verdict}
use Rattle.pr_core.specs.declared.verdict.Verdict.{Verdict}
use Rattle.audit_log.specs.declared.act.Act.{Act}
use Rattle.audit_log.specs.declared.act.Act.TheVariants.{Command, ReserveOut, Invalid, Loss, Reset, MediumIn, MediumOut}
use Rattle.audit_log.specs.declared.record.Record.{Record}
use Rattle.judgement.specs.History.{Accepted, after_history}
use Rattle.logical_unit.specs.Audit.{IsReplayable, AreReplayable}
use Rattle.logical_unit.specs.Legal.{accepted_in, accepted_of, shown_history}
use Rattle.logical_unit.proofs.HistoryOfRecords.{trail_shows}
use Rattle.logical_unit.proofs.Replay.{trails_replay}
use Rattle.record_lines.specs.Standing.{FollowsTrails, applied_by, applied_unless, state_after, state_of, states_after}

-- one record, by whom, what and how it was answered
step_of : (v : State) (n : Option Nexus) (a : Act) (s : Status) → IsReplayable v (accepted_of n a s) → state_of v n a s ≡ after_history v (accepted_of n a s)
step_of v None a s h = refl
step_of v (Some n) (ReserveOut p) Good h = ap (λ (w : Verdict). applied_by v n p w) h.0 ∙ ap (λ (o : Option PrFault). applied_unless v n p o) h.1
step_of v (Some n) (ReserveOut p) CheckCondition h = refl
step_of v (Some n) (ReserveOut p) Busy h = refl
step_of v (Some n) (ReserveOut p) ReservationConflict h = refl
step_of v (Some n) (Command class) s h = refl
step_of v (Some n) Invalid s h = refl
step_of v (Some n) Loss s h = refl
step_of v (Some n) Reset s h = refl
step_of v (Some n) MediumIn s h = refl
step_of v (Some n) MediumOut s h = refl

-- what a history leaves after another
history_joins : (v : State) (first more : List Accepted) → after_history v (first ++ more) ≡ after_history (after_history v first) more
history_joins v [] more = refl
history_joins v (a ∷ first) more = history_joins (after_history v (a ∷ [])) first more

all_follow : (v : State) (es : List Record) → AreReplayable v es → states_after v es ≡ after_history v (shown_history es)
all_follow v [] h = refl
all_follow v (e ∷ es) h =
    let step = step_of v e.nexus e.act e.status h.0 in
    ap (λ (w : State). states_after w es) step
    ∙ (all_follow (after_history v (accepted_in e)) es h.1 ∙ sym (history_joins v (accepted_in e) (shown_history es)))

pub follows_trails : FollowsTrails
follows_trails base es now trail = all_follow base.state.reservations es (trails_replay base es now trail) ∙ sym (trail_shows base es now trail)
