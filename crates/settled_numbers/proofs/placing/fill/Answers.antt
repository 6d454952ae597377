use Rattle.std.proofs.Common.{arith, ◌∙◌, ap, ◌≡◌, ℕ, take, drop, ◌++◌, ◌∷◌, suc}
use Rattle.std.proofs.lemmas.List.{set_split}
use Rattle.settled_numbers.proofs.placing.fill.Goals as goal

pub returns-else-gap-eq2-clause-ok : goal.returns-else-gap-eq2-clause-ok
returns-else-gap-eq2-clause-ok c =
    let rs = c.args.ranges.now.items in
    let gap = c.args.gap in
    let to : suc gap.from ≡ gap.to = omega (arith, c.requires.order, c.requires.few, c.if-gap.false, c.if-gap-eq2.false) in
    set_split rs gap.from gap.range (omega (arith, c.requires.within, to)) ∙ ap (λ (n : ℕ). take gap.from rs ++ gap.range ∷ drop n rs) to
