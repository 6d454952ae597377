use Rattle.std.proofs.Common.{rules}
use Rattle.judgement.proofs.reply.Reply.data.Goals as goal

pub returns-in-None : goal.returns-in-None
returns-in-None c = search rules fits 100
