use Rattle.std.proofs.Common.{subst, ◌∙◌, ◌≡◌, None}
use Rattle.std.specs.Prelude.{IfOk, OnErr}
use Rattle.unit_attention.specs.Queues.{Slots, IsSlotAt, slot_of}
use Rattle.unit_attention.proofs.SlotLemmas.{found_at, absent_at}
use Rattle.unit_attention.proofs.queues.Queues.place.Goals as goal

pub returns-clause-found : goal.returns-clause-found
returns-clause-found c =
    subst (λ (q : Slots). IfOk c.place_at.result (λ place. IsSlotAt q c.args.nexus place)) (c.as_slice.ensures.value ∙ c.self.view_is) (found_at _ _ _ c.place_at.ensures)

pub returns-clause-absent : goal.returns-clause-absent
returns-clause-absent c =
    subst (λ (q : Slots). OnErr c.place_at.result (slot_of q c.args.nexus ≡ None)) (c.as_slice.ensures.value ∙ c.self.view_is) (absent_at _ _ _ c.place_at.ensures)
