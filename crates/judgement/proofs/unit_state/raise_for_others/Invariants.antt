use Rattle.std.proofs.Common.{◌≡◌, take}
use Rattle.std.specs.Prelude.{if◌then◌else◌}
use Rattle.std.specs.List.{fold}
use Rattle.scsi_nexus.specs.Order.{same_nexus}
use Rattle.unit_attention.specs.Queues.{raised}
use Rattle.judgement.proofs.unit_state.raise_for_others.Given as goal

abbrev pub invariant-loop-nexus : goal.invariant-loop-nexus
invariant-loop-nexus l = l.queues ≡ fold (λ slots n. if same_nexus n l.sender then slots else raised slots n l.kind) l.fn.queues (take l.nexus-index l.nexus-items)
