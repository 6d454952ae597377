use Rattle.std.proofs.Common.{List, sym, rules, ◌∙◌}
use Rattle.unit_attention.specs.declared.kind.Kind.{Kind}
use Rattle.unit_attention.specs.Pending.{with_kind}
use Rattle.unit_attention.proofs.SlotLemmas.{changed_in, same_without, sorted_as, sorted-change}
use Rattle.unit_attention.proofs.queues.Queues.raise.Goals as goal

pub returns-in-Ok : goal.returns-in-Ok
returns-in-Ok c =
    changed_in c.args.nexus c.self.inside.slots.items c.as_mut_slice.result.now c.args.self.now c.in-Ok.place c.index-as_mut_slice-place.result (λ (ks : List Kind). with_kind ks c.args.kind) c.raise.new.self c.as_mut_slice.ensures.value c.self.view_is c.in-Ok.ensures.place c.in-Ok.ensures.found c.raise.ensures

pub invariant_of-self : goal.invariant_of-self
invariant_of-self c =
    sorted_as _ _
    (changed_in c.args.nexus c.self.inside.slots.items c.as_mut_slice.result.now c.args.self.now c.in-Ok.place c.index-as_mut_slice-place.result (λ (ks : List Kind). with_kind ks c.args.kind) c.raise.new.self c.as_mut_slice.ensures.value c.self.view_is c.in-Ok.ensures.place c.in-Ok.ensures.found c.raise.ensures)
    (sorted-change c.args.self.now c.args.nexus (λ (ks : List Kind). with_kind ks c.args.kind) (sorted_as _ _ (sym c.self.view_is) c.self.invariant))

pub returns-in-Err : goal.returns-in-Err
returns-in-Err c = c.self.view_is ∙ same_without c.args.nexus c.args.self.now (λ (ks : List Kind). with_kind ks c.args.kind) (search rules)
