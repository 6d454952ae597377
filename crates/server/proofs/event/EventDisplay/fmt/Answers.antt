use Rattle.server.proofs.event.EventDisplay.fmt.Goals as goal

pub returns-in-Busy-clause-writes : goal.returns-in-Busy-clause-writes
returns-in-Busy-clause-writes g c = λ plain ok. rw c.in-Busy.is (c.write-in-Busy.ensures.writes plain ok)
