use Rattle.std.proofs.Common.{◌≡◌, take}
use Rattle.std.specs.List.{fold}
use Rattle.unit_attention.specs.Queues.{raised}
use Rattle.judgement.proofs.unit_state.raise_for_all.Given as goal

abbrev pub invariant-loop-nexus : goal.invariant-loop-nexus
invariant-loop-nexus l = l.queues ≡ fold (λ slots n. raised slots n l.kind) l.fn.queues (take l.nexus-index l.nexus-items)
