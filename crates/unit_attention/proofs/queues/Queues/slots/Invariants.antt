use Rattle.std.proofs.Common.{◌≡◌, map, take}
use Rattle.unit_attention.proofs.queues.Queues.slots.Given as goal

abbrev pub invariant-loop-nexus : goal.invariant-loop-nexus
invariant-loop-nexus l = l.nexuses.items ≡ map (λ e. e.0) (take l.nexus-index l.nexus-items)
