use Rattle.std.proofs.Common.{◌≡◌, ◌+◌, take}
use Rattle.iscsi_tasks.specs.Values.{held}
use Rattle.iscsi_tasks.specs.Limits.{most_held}
use Rattle.iscsi_tasks.proofs.waiting.has_room.Given as goal

-- what the tasks so far leave
abbrev pub invariant-loop-task : goal.invariant-loop-task
invariant-loop-task l = l.room + held (take l.task-index l.waiting) ≡ most_held
