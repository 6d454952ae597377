use Rattle.std.proofs.Common.{◌≡◌, ◌≤◌, ◌++◌, length, map, drop}
use Rattle.iscsi_tasks.specs.declared.held_reply.HeldReply.{HeldReply}
use Rattle.iscsi_tasks.proofs.holding.tickets_of.Given as goal

-- the tickets so far, and those of the replies that are left
abbrev pub invariant-loop-reply : goal.invariant-loop-reply
invariant-loop-reply l =
    (l.tickets.items ++ map (λ (r : HeldReply). r.ticket) (drop l.reply-index l.replies) ≡ map (λ (r : HeldReply). r.ticket) l.replies)
    × (length l.tickets.items ≤ l.reply-index)
