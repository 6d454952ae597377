use Rattle.replay.proofs.RunLemmas.{lines_of_run}
use Rattle.replay.proofs.laws.lines_alone.Goals as goal

pub returns : goal.returns
returns c profile core left events replies run = lines_of_run profile core left events replies run
