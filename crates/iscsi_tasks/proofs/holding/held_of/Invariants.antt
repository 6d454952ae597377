use Rattle.std.proofs.Common.{◌≡◌, ◌≤◌, take}
use Rattle.iscsi_tasks.specs.Windows.{held_of}
use Rattle.iscsi_tasks.proofs.holding.held_of.Given as goal

abbrev pub invariant-loop-reply : goal.invariant-loop-reply
invariant-loop-reply l = (l.count ≡ held_of l.immediate (take l.reply-index l.replies)) × (l.count ≤ l.reply-index)
