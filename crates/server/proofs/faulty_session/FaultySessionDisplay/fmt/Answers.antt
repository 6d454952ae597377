use Rattle.std.proofs.Common.{sym}
use Rattle.server.proofs.faulty_session.FaultySessionDisplay.fmt.Goals as goal

pub returns-in-None-clause-writes : goal.returns-in-None-clause-writes
returns-in-None-clause-writes g c = λ plain ok. rw (c.in-None.is, sym c.words-words.ensures) (c.write.ensures.writes plain ok)
