use Rattle.frames.proofs.ReplyPieces.{reply_stays}
use Rattle.frames.proofs.reply_laws.reply_stays.Goals as goal

pub returns : goal.returns
returns c p bytes more known = reply_stays p bytes more known
