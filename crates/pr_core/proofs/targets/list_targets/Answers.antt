use Rattle.std.proofs.Common.{arith}
use Rattle.std.proofs.lemmas.Grind.{common_steps}
use Rattle.pr_core.proofs.targets.list_targets.Goals as goal

pub returns : goal.returns
returns c = grind (arith, common_steps)

pub loop-sas-preserved : goal.loop-sas-preserved
loop-sas-preserved c = grind (arith, common_steps)
