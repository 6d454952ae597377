use Rattle.std.proofs.Common.{arith}
use Rattle.std.proofs.lemmas.Grind.{common_steps}
use Rattle.lun_router.proofs.entry_queue.EntryQueue.remove_oldest.Goals as goal

pub overflow_sub-left : goal.overflow_sub-left
overflow_sub-left c = grind (arith, common_steps)

pub returns-then-left-self : goal.returns-then-left-self
returns-then-left-self c = grind (arith, common_steps)

pub returns-else-left-self : goal.returns-else-left-self
returns-else-left-self c = grind (arith, common_steps)

pub overflow_add-self : goal.overflow_add-self
overflow_add-self c = grind (arith, common_steps)
