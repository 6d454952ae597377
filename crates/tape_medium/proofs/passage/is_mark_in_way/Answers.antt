use Rattle.std.proofs.Common.{arith}
use Rattle.std.proofs.lemmas.Grind.{common_steps, elements}
use Rattle.tape_medium.proofs.passage.is_mark_in_way.Goals as goal

pub returns : goal.returns
returns c = grind (arith, common_steps)

pub overflow_sub-from-then-back : goal.overflow_sub-from-then-back
overflow_sub-from-then-back c = grind (arith, common_steps)

pub overflow_add-from : goal.overflow_add-from
overflow_add-from c = grind (arith, common_steps)

pub returns-then-back : goal.returns-then-back
returns-then-back c = grind (arith, elements)
