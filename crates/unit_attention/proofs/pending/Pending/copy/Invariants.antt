use Rattle.std.proofs.Common.{◌≡◌, take}
use Rattle.unit_attention.proofs.pending.Pending.copy.Given as goal

abbrev pub invariant-loop-kind : goal.invariant-loop-kind
invariant-loop-kind l = l.kinds.items ≡ take l.kind-index l.kind-items
