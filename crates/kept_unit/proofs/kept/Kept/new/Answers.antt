use Rattle.std.proofs.Common.{rules}
use Rattle.kept_unit.proofs.kept.Kept.new.Goals as goal

pub invariant_of-result : goal.invariant_of-result
invariant_of-result g c = search rules fits 100
