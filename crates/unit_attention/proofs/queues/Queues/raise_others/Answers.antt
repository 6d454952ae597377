use Rattle.std.proofs.Common.{map}
use Rattle.unit_attention.specs.Queues.{for_others}
use Rattle.unit_attention.proofs.WalkLemmas.{sorted-written}
use Rattle.unit_attention.proofs.queues.Queues.raise_others.Goals as goal

pub invariant_of-self : goal.invariant_of-self
invariant_of-self g c =
    sorted-written c.self.inside.slots.items c.as_mut_slice.result.now c.raise_in.new.slots (for_others c.args.sender c.args.named.now c.args.kind (map (λ e. e.0) c.args.entries.now)) c.as_mut_slice.ensures.value c.raise_in.ensures c.self.invariant
