use Rattle.std.proofs.Common.{arith, rules}
use Rattle.std.proofs.lemmas.Grind.{common_steps}
use Rattle.session.proofs.splitter.Splitter.feed.Goals as goal

pub returns-in-Err-clause-memory : goal.returns-in-Err-clause-memory
returns-in-Err-clause-memory c = grind (arith, common_steps)

pub returns-after-fault-clause-fed : goal.returns-after-fault-clause-fed
returns-after-fault-clause-fed c = search rules

pub returns-after-fault-clause-told : goal.returns-after-fault-clause-told
returns-after-fault-clause-told c = search rules
