use Rattle.std.proofs.Common.{◌≡◌, take}
use Rattle.unit_attention.proofs.queues.Queues.copy.Given as goal

abbrev pub invariant-loop-nexus : goal.invariant-loop-nexus
invariant-loop-nexus l = l.slots.items ≡ take l.nexus-index l.nexus-items
