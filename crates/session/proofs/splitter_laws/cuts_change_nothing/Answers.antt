use Rattle.session.proofs.Splitting.{splits_read, same_frames}
use Rattle.session.proofs.splitter_laws.cuts_change_nothing.Goals as goal

pub returns-clause-stream : goal.returns-clause-stream
returns-clause-stream c p pieces frames stop so = splits_read p pieces frames stop so

pub returns-clause-same : goal.returns-clause-same
returns-clause-same c p pieces others fs gs s t same one two = same_frames p pieces others fs gs s t same one two
