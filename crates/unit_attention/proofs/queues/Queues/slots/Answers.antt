use Rattle.std.proofs.Common.{arith}
use Rattle.std.proofs.lemmas.Grind.{common_steps}
use Rattle.unit_attention.proofs.queues.Queues.slots.Goals as goal

pub push-requires : goal.push-requires
push-requires c = grind (arith, common_steps)

pub loop-nexus-preserved : goal.loop-nexus-preserved
loop-nexus-preserved c = grind (arith, common_steps)

pub returns : goal.returns
returns c = grind (arith, common_steps)
