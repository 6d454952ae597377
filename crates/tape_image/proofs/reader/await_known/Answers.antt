use Rattle.std.proofs.lemmas.Grind.{common_steps}
use Rattle.std.proofs.Common.{◌≡◌, ◌≤◌, ◌++◌, ◌∙◌, ℕ, List, length, append_assoc, ap, sym, subst, arith, length-append}
use Rattle.std.proofs.KnownBytes.{Consumes-trans}
use Rattle.tape_image.specs.Parts.{Partial, image_part}
use Rattle.tape_image.specs.Walking.{HasNoMore}
use Rattle.tape_image.proofs.Fits.{wanted_fits}
use Rattle.tape_image.proofs.reader.await_known.Goals as goal

pub reads-preserved : goal.reads-preserved
reads-preserved g c =
    let before = c.reads.invariant.read in
    let one = c.in-Ok.ensures.ok in
    let wanted : image_part c.reads.part ≡ Partial c.in-Partial.wanted = ap image_part (sym c.pending.ensures.value) ∙ sym c.in-Partial.ensures.part in
    let most : length (c.reads.part ++ one.0) ≤ c.in-Partial.wanted = omega (arith, length-append c.reads.part one.0, one.2, c.in-Ok.ensures.most) in
    record {
      read = (
        before.0 ++ one.0,
        one.1 ∙ ap (λ (xs : List ℕ). xs ++ one.0) before.1 ∙ append_assoc c.args.part.now before.0 one.0,
        Consumes-trans _ _ _ before.0 one.0 before.2 one.3,
      );
      most = subst (λ (xs : List ℕ). HasNoMore (length xs) (image_part xs)) (sym one.1) (wanted_fits c.reads.part one.0 c.in-Partial.wanted wanted most);
    }

pub returns-in-Ok-eq0-clause-most : goal.returns-in-Ok-eq0-clause-most
returns-in-Ok-eq0-clause-most g c = grind (arith, common_steps)

pub returns-in-Ok-eq0-clause-read : goal.returns-in-Ok-eq0-clause-read
returns-in-Ok-eq0-clause-read g c = grind (arith, common_steps)

pub reads-smaller : goal.reads-smaller
reads-smaller g c = grind (arith, common_steps)
