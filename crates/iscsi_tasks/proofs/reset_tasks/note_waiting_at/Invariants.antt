use Rattle.std.proofs.Common.{◌≡◌, drop}
use Rattle.iscsi_tasks.specs.Aborts.{noted_waiting}
use Rattle.iscsi_tasks.proofs.reset_tasks.note_waiting_at.Given as goal

-- what is left adds its tasks
abbrev pub invariant-loop-task : goal.invariant-loop-task
invariant-loop-task l = noted_waiting l.unit l.tasks (drop l.task-index l.waiting) ≡ noted_waiting l.unit l.initial.tasks l.waiting
