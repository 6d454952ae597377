use Rattle.iscsi_tasks.proofs.Order.{all_orders, all_kept, all_executed}
use Rattle.iscsi_tasks.proofs.laws.commands_in_order.Goals as goal

pub returns-clause-order : goal.returns-clause-order
returns-clause-order c = all_orders

pub returns-clause-executed : goal.returns-clause-executed
returns-clause-executed c = all_executed

pub returns-clause-complete : goal.returns-clause-complete
returns-clause-complete c = all_kept
