use Rattle.std.proofs.Common.{arith}
use Rattle.std.proofs.lemmas.Grind.{common_steps}
use Rattle.frames.proofs.awaiting.await_reply.Goals as goal

pub returns-in-Ok-eq0-clause-read : goal.returns-in-Ok-eq0-clause-read
returns-in-Ok-eq0-clause-read g c = grind (arith, common_steps)

pub returns-in-Ok-eq0-clause-ended : goal.returns-in-Ok-eq0-clause-ended
returns-in-Ok-eq0-clause-ended g c = grind (arith, common_steps)

pub reads-preserved : goal.reads-preserved
reads-preserved g c = grind (arith, common_steps)
