use Rattle.std.proofs.Common.{◌≡◌, ◌≤◌, take}
use Rattle.iscsi_tasks.specs.Windows.{waiting_of}
use Rattle.iscsi_tasks.proofs.waiting.waiting_of.Given as goal

abbrev pub invariant-loop-task : goal.invariant-loop-task
invariant-loop-task l = (l.count ≡ waiting_of l.immediate (take l.task-index l.waiting)) × (l.count ≤ l.task-index)
