use Rattle.std.proofs.Common.{◌∙◌, sym, []}
use Rattle.std.proofs.lemmas.Bool.{false≢true}
use Rattle.unit_attention.proofs.SlotLemmas.{has-at, sorted_as, sorted-contact, inserted_in, contacted-same, contacted-absent}
use Rattle.unit_attention.proofs.queues.Queues.contact.Goals as goal

pub invariant_of-self : goal.invariant_of-self
invariant_of-self c =
    sorted_as _ _
    (inserted_in c.args.nexus c.self.inside.slots.items c.args.self.now c.insert.new.self.items c.in-Err.place c.after_contact.result c.insert.ensures.items c.after_contact.ensures c.self.view_is c.in-Err.ensures.place)
    (sorted-contact c.args.self.now c.args.nexus (sorted_as _ _ (sym c.self.view_is) c.self.invariant))

pub returns-in-Ok-clause-ok : goal.returns-in-Ok-clause-ok
returns-in-Ok-clause-ok c = contacted-same c.args.nexus c.args.self.now (has-at c.args.nexus c.args.self.now c.in-Ok.field-0 (c.args.nexus, []) c.in-Ok.ensures.found)

pub returns-in-Ok-clause-no_slot : goal.returns-in-Ok-clause-no_slot
returns-in-Ok-clause-no_slot c =
    (λ e. absurd (false≢true e), λ h. absurd (false≢true (sym h.0 ∙ has-at c.args.nexus c.args.self.now c.in-Ok.field-0 (c.args.nexus, []) c.in-Ok.ensures.found)))

pub returns-else-is_full-clause-ok : goal.returns-else-is_full-clause-ok
returns-else-is_full-clause-ok c =
    inserted_in c.args.nexus c.self.inside.slots.items c.args.self.now c.insert.new.self.items c.in-Err.place c.after_contact.result c.insert.ensures.items c.after_contact.ensures c.self.view_is c.in-Err.ensures.place
    ∙ sym (contacted-absent c.args.nexus c.args.self.now c.in-Err.ensures.absent)
