use Rattle.std.proofs.Common.{rules}
use Rattle.target_core.proofs.target.TargetCore.new.Goals as goal

pub returns-in-None-clause-err : goal.returns-in-None-clause-err
returns-in-None-clause-err g c = search rules
