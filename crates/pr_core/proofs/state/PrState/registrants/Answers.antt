use Rattle.std.proofs.Common.{arith}
use Rattle.std.proofs.lemmas.Grind.{common_steps}
use Rattle.pr_core.proofs.state.PrState.registrants.Goals as goal

pub loop-nexus-preserved : goal.loop-nexus-preserved
loop-nexus-preserved c = grind (arith, common_steps)
