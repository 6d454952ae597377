use Rattle.std.proofs.Common.{rules}
use Rattle.judgement.proofs.command.act_of.Goals as goal

pub returns-in-Err : goal.returns-in-Err
returns-in-Err c = search rules fits 100
