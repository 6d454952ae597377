use Rattle.iscsi_tasks.proofs.HeldRuns.{all_once, all_said}
use Rattle.iscsi_tasks.proofs.laws.held_leave_once.Goals as goal

pub returns-clause-once : goal.returns-clause-once
returns-clause-once c = all_once

pub returns-clause-said : goal.returns-clause-said
returns-clause-said c = all_said
