-- The audit lines with the reservation that stood before each record (profile).
use Rattle.std.specs.Prelude.{◌≡◌, ℕ, List, [], ◌∷◌, ◌++◌, codes, take, slice_get, Some, None}
use Rattle.audit_log.specs.Lines.{line_of, reservation_text}
use Rattle.audit_log.specs.declared.record.Record.{Record}
use Rattle.pr_core.specs.State.{State}
use Rattle.pr_core.specs.Judge.{verdict}
use Rattle.pr_core.specs.Outcome.{refusal}
use Rattle.pr_core.specs.declared.verdict.Verdict.TheVariants.{Allowed}
use Rattle.judgement.specs.History.{Accepted, after_history}
use Rattle.judgement.specs.UnitStateView.{UnitStateView}
use Rattle.logical_unit.specs.Legal.{IsTrail, accepted_in, kept_after}
use Rattle.logical_unit.specs.UnitView.{Base, UnitView}

-- a record's line, a space, and the reservation that stood before it
abbrev pub span_line : State → Record → List ℕ
span_line v e = line_of e ++ codes " " ++ reservation_text v.reservation

-- a line for each record, from what stood before the first; what a record accepted stands before the next
abbrev pub span_lines : State → List Record → List (List ℕ)
span_lines v [] = []
span_lines v (e ∷ es) = span_line v e ∷ span_lines (after_history v (accepted_in e)) es

-- of a unit: from its base
abbrev pub audit_of : UnitView → List (List ℕ)
audit_of u = span_lines u.base.state.reservations u.records

-- in a legal trail the line at each place has the reservation that the records before it leave of what was kept before the first
abbrev pub ShowsReservations : Type 0
ShowsReservations =
    (base : Base) (es : List Record) (now : UnitStateView) (place : ℕ) (e : Record) → IsTrail base es now → slice_get es place ≡ Some e
    → slice_get (span_lines base.state.reservations es) place ≡ Some (span_line (kept_after base.state (take place es)).reservations e)

-- what a record accepted is allowed and not refused where it stands, so that it may be carried out again
abbrev pub IsReplayable : State → List Accepted → Type 0
IsReplayable v [] = Unit {0}
IsReplayable v (a ∷ more) = (verdict v a.0 a.1 ≡ Allowed) × (refusal v a.0 a.1 ≡ None)

abbrev pub AreReplayable : State → List Record → Type 0
AreReplayable v [] = Unit {0}
AreReplayable v (e ∷ es) = IsReplayable v (accepted_in e) × AreReplayable (after_history v (accepted_in e)) es

-- in a legal trail it is so of each record
abbrev pub TrailsReplay : Type 0
TrailsReplay = (base : Base) (es : List Record) (now : UnitStateView) → IsTrail base es now → AreReplayable base.state.reservations es
