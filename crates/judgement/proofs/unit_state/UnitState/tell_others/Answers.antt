use Rattle.judgement.proofs.PreventerLaws.{others_told_have}
use Rattle.judgement.proofs.unit_state.UnitState.tell_others.Goals as goal

pub invariant_of-self : goal.invariant_of-self
invariant_of-self c = rw c.raise_for_others.ensures (others_told_have c.self.inside.queues c.args.nexus _ c.self.inside.preventers c.self.invariant)
