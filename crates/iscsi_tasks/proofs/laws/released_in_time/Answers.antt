use Rattle.iscsi_tasks.proofs.HeldRuns.{all_in_time}
use Rattle.iscsi_tasks.proofs.laws.released_in_time.Goals as goal

pub returns : goal.returns
returns c = all_in_time
