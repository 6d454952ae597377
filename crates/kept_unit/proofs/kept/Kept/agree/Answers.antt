use Rattle.std.proofs.Common.{rules}
use Rattle.kept_unit.proofs.kept.Kept.agree.Goals as goal

pub returns : goal.returns
returns g c = search rules fits 100
