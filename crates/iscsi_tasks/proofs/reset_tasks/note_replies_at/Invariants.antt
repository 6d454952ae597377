use Rattle.std.proofs.Common.{◌≡◌, drop}
use Rattle.iscsi_tasks.specs.Aborts.{noted_replies}
use Rattle.iscsi_tasks.proofs.reset_tasks.note_replies_at.Given as goal

-- what is left adds its tasks
abbrev pub invariant-loop-reply : goal.invariant-loop-reply
invariant-loop-reply l = noted_replies l.unit l.tasks (drop l.reply-index l.replies) ≡ noted_replies l.unit l.initial.tasks l.replies
