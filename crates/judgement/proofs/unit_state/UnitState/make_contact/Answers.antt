use Rattle.std.proofs.Common.{rules, sym, subst}
use Rattle.unit_attention.specs.Queues.{Slots}
use Rattle.judgement.specs.UnitState.{HaveSlots}
use Rattle.judgement.proofs.PreventerLaws.{contacted_have}
use Rattle.judgement.proofs.unit_state.UnitState.make_contact.Goals as goal

pub invariant_of-self : goal.invariant_of-self
invariant_of-self c =
    subst (λ (q : Slots). HaveSlots q c.self.inside.preventers) (sym (search rules))
    (contacted_have c.self.inside.queues c.args.nexus c.self.inside.preventers c.self.invariant)
