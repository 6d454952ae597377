use Rattle.std.proofs.Common.{ℕ, List, [], ◌∷◌, ◌++◌, map, take, ap, sym, ◌∙◌}
use Rattle.std.proofs.lemmas.List.{take_all, map_more}
use Rattle.tape_flush.specs.Openings.{end_of_entry}
use Rattle.tape_flush.proofs.opening.ends_of.Goals as goal

pub entries-preserved : goal.entries-preserved
entries-preserved c =
    c.in_ok-push-in-Some.ensures.items
    ∙ ap (λ (ends : List ℕ). ends ++ c.in-Some.end ∷ []) c.entries.invariant
    ∙ ap (λ (end : ℕ). map end_of_entry (take c.entries.entry-index c.args.entries.now) ++ end ∷ []) c.in-Some.ensures
    ∙ sym (map_more end_of_entry c.args.entries.now c.entries.entry-index _ c.entries-test.true)

pub returns : goal.returns
returns c = c.entries.invariant ∙ ap (map end_of_entry) (take_all c.entries.entry-index c.args.entries.now c.entries-test.false)
