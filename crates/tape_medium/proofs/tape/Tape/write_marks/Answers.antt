use Rattle.std.proofs.Common.{arith}
use Rattle.std.proofs.lemmas.Grind.{common_steps}
use Rattle.tape_medium.proofs.tape.Tape.write_marks.Goals as goal

pub returns-clause-ok : goal.returns-clause-ok
returns-clause-ok c = grind (arith, common_steps)

pub returns-then-is_err-clause-fault : goal.returns-then-is_err-clause-fault
returns-then-is_err-clause-fault c = grind (arith, common_steps)

pub returns-then-self-count-clause-fault : goal.returns-then-self-count-clause-fault
returns-then-self-count-clause-fault c = grind (arith, common_steps)
