use Rattle.iscsi_tasks.proofs.HeldRuns.{all_handed_out}
use Rattle.iscsi_tasks.proofs.laws.held_are_handed_out.Goals as goal

pub returns : goal.returns
returns c = all_handed_out
