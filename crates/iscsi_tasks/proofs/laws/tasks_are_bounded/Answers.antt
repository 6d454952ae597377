use Rattle.iscsi_tasks.proofs.Window.{all_bounded, all_within}
use Rattle.iscsi_tasks.proofs.laws.tasks_are_bounded.Goals as goal

pub returns-clause-waiting : goal.returns-clause-waiting
returns-clause-waiting c = all_bounded

pub returns-clause-under_way : goal.returns-clause-under_way
returns-clause-under_way c = all_within
