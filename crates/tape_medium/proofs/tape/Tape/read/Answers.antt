use Rattle.std.proofs.Common.{arith}
use Rattle.std.proofs.lemmas.Grind.{common_steps, elements}
use Rattle.tape_medium.proofs.tape.Tape.read.Goals as goal

pub overflow_cast-result : goal.overflow_cast-result
overflow_cast-result c = grind (arith, elements)

pub returns-else-is_err-clause-short : goal.returns-else-is_err-clause-short
returns-else-is_err-clause-short c = grind (arith, elements)

pub returns-then-self-len-clause-after : goal.returns-then-self-len-clause-after
returns-then-self-len-clause-after c = grind (arith, elements)

pub returns-then-self-len-clause-item : goal.returns-then-self-len-clause-item
returns-then-self-len-clause-item c = grind (arith, elements)

pub returns-then-self-len-clause-short : goal.returns-then-self-len-clause-short
returns-then-self-len-clause-short c = grind (arith, elements)

pub returns-then-self-len-clause-bytes : goal.returns-then-self-len-clause-bytes
returns-then-self-len-clause-bytes c = grind (arith, elements)

pub returns-then-is_err-clause-room : goal.returns-then-is_err-clause-room
returns-then-is_err-clause-room c = grind (arith, common_steps)

pub returns-else-is_err-clause-bytes : goal.returns-else-is_err-clause-bytes
returns-else-is_err-clause-bytes c = grind (arith, common_steps)
