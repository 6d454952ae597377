use Rattle.unit_attention.specs.declared.kind.Kind.TheVariants.{MediumChanged}
use Rattle.judgement.proofs.PreventerLaws.{all_told_have}
use Rattle.judgement.proofs.unit_state.UnitState.take_in_medium.Goals as goal

pub invariant_of-self : goal.invariant_of-self
invariant_of-self c = rw c.raise_for_all.ensures (all_told_have c.self.inside.queues MediumChanged c.self.inside.preventers c.self.invariant)
