use Rattle.std.proofs.Common.{rules}
use Rattle.judgement.proofs.command.Command.of.Goals as goal

pub returns-in-Err-clause-want : goal.returns-in-Err-clause-want
returns-in-Err-clause-want c = search rules fits 100
