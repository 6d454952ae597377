use Rattle.iscsi_tasks.proofs.HeldRuns.{reset_gone, task_gone, unit_gone}
use Rattle.iscsi_tasks.proofs.laws.dropped_is_gone.Goals as goal

pub returns-clause-task : goal.returns-clause-task
returns-clause-task c = task_gone

pub returns-clause-unit : goal.returns-clause-unit
returns-clause-unit c = unit_gone

pub returns-clause-reset : goal.returns-clause-reset
returns-clause-reset c = reset_gone
