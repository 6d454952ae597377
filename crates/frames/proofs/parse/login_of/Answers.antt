use Rattle.std.proofs.Common.{arith}
use Rattle.std.proofs.lemmas.Grind.{common_steps}
use Rattle.frames.proofs.parse.login_of.Goals as goal

pub returns-clause-parsed : goal.returns-clause-parsed
returns-clause-parsed c = grind (arith, common_steps)
