use Rattle.std.proofs.Common.{◌∙◌, not, rules, subst, sym, ap}
use Rattle.std.specs.Prelude.{filter}
use Rattle.arrayvec.proofs.ArrayVecLemmas.{filter-from_retain}
use Rattle.unit_attention.specs.declared.kind.Kind.{Kind}
use Rattle.unit_attention.specs.Pending.{same_kind, IsOnce}
use Rattle.unit_attention.proofs.PendingLemmas.{once-filter}
use Rattle.unit_attention.proofs.pending.Pending.clear.Goals as goal

pub returns : goal.returns
returns c =
    let test = λ (k : Kind). not (same_kind c.args.kind k) in
    filter-from_retain _ test _ (λ x b f' y called. search rules) _ _ c.retain.ensures.filtered ∙ ap (filter test) c.self.view_is

pub invariant_of-self : goal.invariant_of-self
invariant_of-self c =
    let test = λ (k : Kind). not (same_kind c.args.kind k) in
    subst IsOnce (sym (filter-from_retain _ test _ (λ x b f' y called. search rules) _ _ c.retain.ensures.filtered)) (once-filter test c.self.inside.kinds.items c.self.invariant)
