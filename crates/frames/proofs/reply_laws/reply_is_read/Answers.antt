use Rattle.frames.proofs.WrittenReplies.{reply_again}
use Rattle.frames.proofs.reply_laws.reply_is_read.Goals as goal

pub returns-clause-parsed : goal.returns-clause-parsed
returns-clause-parsed c p r rest short can = reply_again p c.sense_reads_back.ensures r rest short can
