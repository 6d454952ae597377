use Rattle.std.proofs.Common.{rules}
use Rattle.target_core.proofs.target.TargetCore.into_units.Goals as goal

pub returns-clause-units : goal.returns-clause-units
returns-clause-units g c = search rules
