use Rattle.std.proofs.Common.{rules}
use Rattle.logical_unit.proofs.unit.LogicalUnit.lose.Goals as goal

pub returns-then-not-has_slot-clause-unit : goal.returns-then-not-has_slot-clause-unit
returns-then-not-has_slot-clause-unit g c = search rules fits 100
