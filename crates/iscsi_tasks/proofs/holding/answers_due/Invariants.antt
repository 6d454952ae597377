use Rattle.std.proofs.Common.{◌≡◌, ◌≤◌, ◌++◌, length, drop}
use Rattle.iscsi_tasks.specs.Holding.{answers_due}
use Rattle.iscsi_tasks.proofs.holding.answers_due.Given as goal

-- the answers so far, and those to the replies that are left
abbrev pub invariant-loop-reply : goal.invariant-loop-reply
invariant-loop-reply l =
    (l.answers.items ++ answers_due l.settled l.outcome (drop l.reply-index l.replies) ≡ answers_due l.settled l.outcome l.replies)
    × (length l.answers.items ≤ l.reply-index)
