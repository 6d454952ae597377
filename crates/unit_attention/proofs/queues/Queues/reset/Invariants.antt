use Rattle.std.proofs.Common.{◌≡◌}
use Rattle.unit_attention.specs.declared.kind.Kind.TheVariants.{BusDeviceReset}
use Rattle.unit_attention.proofs.SlotLemmas.{upto, told}
use Rattle.unit_attention.proofs.queues.Queues.reset.Given as goal

abbrev pub invariant-loop-pending : goal.invariant-loop-pending
invariant-loop-pending l = l.pending-items ≡ upto (told BusDeviceReset) l.pending-index l.initial.pending-items
