use Rattle.iscsi_tasks.specs.Aborts.{reset_by_another, without_unit}
use Rattle.iscsi_tasks.proofs.Order.{all_handed, after_abort}
use Rattle.iscsi_tasks.proofs.laws.aborted_is_gone.Goals as goal

pub returns-clause-task : goal.returns-clause-task
returns-clause-task c = after_abort

pub returns-clause-unit : goal.returns-clause-unit
returns-clause-unit c s unit acts = all_handed (without_unit s unit) acts

pub returns-clause-reset : goal.returns-clause-reset
returns-clause-reset c s unit acts = all_handed (reset_by_another s unit) acts
