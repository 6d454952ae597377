use Rattle.std.proofs.Common.{◌≡◌, true, ap, ◌∙◌, arith}
use Rattle.unit_attention.specs.Queues.{has_slot}
use Rattle.judgement.specs.UnitStateView.{UnitStateView}
use Rattle.judgement.proofs.PreventerLaws.{added_have, room_for, contacted_has}
use Rattle.judgement.proofs.unit_state.UnitState.prevent.Goals as goal

pub add-requires : goal.add-requires
add-requires c =
    let there : has_slot c.self.inside.queues c.args.nexus ≡ true = ap (λ (v : UnitStateView). has_slot v.slots c.args.nexus) (c.self.view_is ∙ c.make_contact.ensures) ∙ contacted_has c.args.self.now.slots c.args.nexus in
    room_for c.self.inside.queues c.args.nexus c.self.inside.preventers c.self.invariant there (omega (arith, c.used-used.ensures))

pub invariant_of-self : goal.invariant_of-self
invariant_of-self c =
    let there : has_slot c.self.inside.queues c.args.nexus ≡ true = ap (λ (v : UnitStateView). has_slot v.slots c.args.nexus) (c.self.view_is ∙ c.make_contact.ensures) ∙ contacted_has c.args.self.now.slots c.args.nexus in
    rw c.add.ensures (added_have c.self.inside.queues c.args.nexus c.self.inside.preventers there c.self.invariant)
