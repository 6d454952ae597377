use Rattle.std.proofs.Common.{not}
use Rattle.scsi_nexus.specs.declared.nexus.Nexus.{Nexus}
use Rattle.scsi_nexus.specs.Order.{same_nexus}
use Rattle.judgement.proofs.PreventerLaws.{filter_have}
use Rattle.judgement.proofs.unit_state.UnitState.allow.Goals as goal

pub invariant_of-self : goal.invariant_of-self
invariant_of-self c = rw c.remove.ensures (filter_have c.self.inside.queues (λ (p : Nexus). not (same_nexus p c.args.nexus)) c.self.inside.preventers c.self.invariant)
