use Rattle.std.proofs.Common.{rules}
use Rattle.kept_unit.specs.Agreeing.{IsTold}
use Rattle.kept_unit.proofs.fitting.is_told.Goals as goal

pub returns : goal.returns
unfolding IsTold
returns c = search rules
