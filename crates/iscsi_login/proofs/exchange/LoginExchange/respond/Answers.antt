use Rattle.std.proofs.Common.{arith}
use Rattle.std.proofs.lemmas.Grind.{common_steps}
use Rattle.iscsi_login.proofs.exchange.LoginExchange.respond.Goals as goal

pub returns-clause-state : goal.returns-clause-state
returns-clause-state c = grind (arith, common_steps)

pub returns-clause-out : goal.returns-clause-out
returns-clause-out c = grind (arith, common_steps)
