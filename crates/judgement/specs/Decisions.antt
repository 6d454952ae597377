-- What a record says of how a command was judged, beside its answer: the stage, the cell of the permission table where one was
-- looked up, and the rule on keys that was broken.
use Rattle.std.specs.Prelude.{Option, None, Some}
use Rattle.audit_log.specs.declared.stage.Stage.{Stage}
use Rattle.audit_log.specs.declared.stage.Stage.TheVariants.{ReservationCheck, Device}
use Rattle.permit_tables.specs.declared.cell.Cell.{Cell}
use Rattle.permit_tables.specs.declared.key_rule.KeyRule.{KeyRule}
use Rattle.pr_core.specs.declared.verdict.Verdict.{Verdict}
use Rattle.pr_core.specs.declared.verdict.Verdict.TheVariants.{Rule}
use Rattle.unit_attention.specs.declared.kind.Kind.{Kind}
use Rattle.judgement.specs.declared.decision.Decision.{Decision}

-- a stage alone: before the reservation check, and of what isn't a command
abbrev pub at_stage : Stage → Decision
at_stage stage = record { stage = stage; cell = None; rule = None; told = None }

-- the device's stage, of a command that told the others something, or nothing
abbrev pub at_device : (told : Option Kind) → Decision
at_device told = record (at_stage Device) { told = told }

-- of a command that came to the reservation check
abbrev pub in_cell : Cell → Decision → Decision
in_cell cell decision = record decision { cell = Some cell }

-- behind it
abbrev pub let_in : Cell → Stage → Decision
let_in cell stage = in_cell cell (at_stage stage)

-- the rule on keys that a verdict found broken
abbrev pub rule_of : Verdict → Option KeyRule
rule_of (Rule rule) = Some rule
rule_of verdict = None

-- by it: the cell is a conflict, or it is allowed and a rule on keys is broken
abbrev pub in_conflict : Cell → Option KeyRule → Decision
in_conflict cell rule = record { stage = ReservationCheck; cell = Some cell; rule = rule; told = None }
