use Rattle.std.proofs.Common.{not, rules}
use Rattle.scsi_nexus.specs.declared.nexus.Nexus.{Nexus}
use Rattle.scsi_nexus.specs.Order.{same_nexus}
use Rattle.judgement.proofs.PreventerLaws.{filter_have, lost_have}
use Rattle.judgement.proofs.unit_state.UnitState.lose.Goals as goal

pub invariant_of-self : goal.invariant_of-self
invariant_of-self c =
    let test = λ (p : Nexus). not (same_nexus p c.args.nexus) in
    rw (c.remove.ensures, c.lose.ensures) (filter_have _ test c.self.inside.preventers (lost_have c.self.inside.queues c.args.nexus c.self.inside.preventers c.self.invariant))

pub returns : goal.returns
returns c = search rules fits 100
