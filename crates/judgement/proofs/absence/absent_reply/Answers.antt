use Rattle.std.proofs.Common.{arith}
use Rattle.std.proofs.lemmas.Grind.{common_steps}
use Rattle.judgement.proofs.absence.absent_reply.Goals as goal

pub returns-clause-answer : goal.returns-clause-answer
returns-clause-answer c = grind (arith, common_steps)

pub returns-in_err-payload-clause-err : goal.returns-in_err-payload-clause-err
returns-in_err-payload-clause-err c = grind (arith, common_steps)
