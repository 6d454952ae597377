use Rattle.std.proofs.Common.{rules}
use Rattle.logical_unit.proofs.unit.LogicalUnit.new.Goals as goal

pub returns-clause-ok : goal.returns-clause-ok
returns-clause-ok g c = search rules fits 100
