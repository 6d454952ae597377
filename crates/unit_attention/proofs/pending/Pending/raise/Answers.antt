use Rattle.std.proofs.Common.{rules, lit<, subst, sym}
use Rattle.unit_attention.specs.Pending.{IsOnce}
use Rattle.unit_attention.proofs.PendingLemmas.{room_for, once-push}
use Rattle.unit_attention.proofs.pending.Pending.raise.Goals as goal

pub push-requires-then-not-has : goal.push-requires-then-not-has
push-requires-then-not-has c = (lit< tt, room_for c.self.inside.kinds.items c.args.kind c.self.invariant (search rules))

pub invariant_of-self-then-not-has : goal.invariant_of-self-then-not-has
invariant_of-self-then-not-has c =
    subst IsOnce (sym c.push-then-not-has.ensures.items) (once-push c.self.inside.kinds.items c.args.kind c.self.invariant (search rules))
