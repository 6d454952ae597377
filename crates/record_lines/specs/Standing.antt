-- The reservations of a unit, as its records leave them one after another (SPC-4, "PERSISTENT RESERVE OUT command").
use Rattle.std.specs.Prelude.{◌≡◌, List, [], ◌∷◌, Option, Some, None}
use Rattle.scsi_nexus.specs.declared.nexus.Nexus.{Nexus}
use Rattle.permit_tables.specs.declared.out_params.OutParams.{OutParams}
use Rattle.permit_tables.specs.declared.pr_fault.PrFault.{PrFault}
use Rattle.pr_core.specs.State.{State}
use Rattle.pr_core.specs.Judge.{verdict}
use Rattle.pr_core.specs.Outcome.{applied, refusal}
use Rattle.pr_core.specs.declared.verdict.Verdict.{Verdict}
use Rattle.pr_core.specs.declared.verdict.Verdict.TheVariants.{Allowed, Denied, Rule}
use Rattle.audit_log.specs.declared.act.Act.{Act}
use Rattle.audit_log.specs.declared.act.Act.TheVariants.{Command, ReserveOut, Invalid, Loss, Reset, MediumIn, MediumOut}
use Rattle.audit_log.specs.declared.record.Record.{Record}
use Rattle.judgement.specs.UnitStateView.{UnitStateView}
use Rattle.logical_unit.specs.Legal.{IsTrail}
use Rattle.logical_unit.specs.UnitView.{Base}
use Rattle.scsi_sense.specs.declared.status.Status.{Status}
use Rattle.scsi_sense.specs.declared.status.Status.TheVariants.{Good, CheckCondition, Busy, ReservationConflict}

-- what a command leaves that isn't refused where it is allowed
abbrev pub applied_unless : State → Nexus → OutParams → Option PrFault → State
applied_unless v n p None = applied v n p
applied_unless v n p (Some fault) = v

abbrev pub applied_by : State → Nexus → OutParams → Verdict → State
applied_by v n p Allowed = applied_unless v n p (refusal v n p)
applied_by v n p (Denied cell) = v
applied_by v n p (Rule rule) = v

abbrev pub state_by : State → Status → Nexus → OutParams → State
state_by v Good n p = applied_by v n p (verdict v n p)
state_by v CheckCondition n p = v
state_by v Busy n p = v
state_by v ReservationConflict n p = v

abbrev pub state_of : State → Option Nexus → Act → Status → State
state_of v None act status = v
state_of v (Some n) (ReserveOut params) status = state_by v status n params
state_of v (Some n) (Command class) status = v
state_of v (Some n) Invalid status = v
state_of v (Some n) Loss status = v
state_of v (Some n) Reset status = v
state_of v (Some n) MediumIn status = v
state_of v (Some n) MediumOut status = v

-- what there is after a record, by what there was before it: a PERSISTENT RESERVE OUT that ended GOOD is carried out again
abbrev pub state_after : State → Record → State
state_after v e = state_of v e.nexus e.act e.status

-- and after several records
abbrev pub states_after : State → List Record → State
states_after v [] = v
states_after v (e ∷ es) = states_after (state_after v e) es

-- in a legal trail that is what its unit keeps
abbrev pub FollowsTrails : Type 0
FollowsTrails = (base : Base) (es : List Record) (now : UnitStateView) → IsTrail base es now → states_after base.state.reservations es ≡ now.reservations
