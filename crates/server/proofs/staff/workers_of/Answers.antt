use Rattle.std.proofs.Common.{arith}
use Rattle.std.proofs.lemmas.Grind.{common_steps}
use Rattle.server.proofs.staff.workers_of.Goals as goal

pub overflow_add-place : goal.overflow_add-place
overflow_add-place g c = grind (arith, common_steps)

pub services-preserved : goal.services-preserved
services-preserved g c = grind (arith, common_steps)
