use Rattle.std.proofs.Common.{◌≡◌, drop}
use Rattle.iscsi_tasks.specs.Aborts.{remembered_at}
use Rattle.iscsi_tasks.proofs.waiting.remember_at.Given as goal

-- what is left adds its tags
abbrev pub invariant-loop-task : goal.invariant-loop-task
invariant-loop-task l =
    remembered_at l.unit l.passed_over (drop l.task-index l.waiting) ≡ remembered_at l.unit l.initial.passed_over l.waiting
