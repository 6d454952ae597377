use Rattle.std.proofs.Common.{rules}
use Rattle.target_core.proofs.target.TargetCore.all.Goals as goal

pub returns-clause-units : goal.returns-clause-units
returns-clause-units g c = search rules
