use Rattle.std.proofs.Common.{rules}
use Rattle.logical_unit.proofs.unit.LogicalUnit.new_after.Goals as goal

pub returns-in-Ok-clause-ok : goal.returns-in-Ok-clause-ok
returns-in-Ok-clause-ok g c = search rules fits 100
