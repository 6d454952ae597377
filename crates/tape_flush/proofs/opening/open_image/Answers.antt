use Rattle.std.proofs.Common.{◌≡◌, ℕ, List, Option, [], ◌++◌, map, drop, length, take, refl, sym, ap, subst, ◌∙◌}
use Rattle.tape_image.specs.Indexes.{indexed}
use Rattle.tape_flush.specs.Openings.{ImageEndsValue, end_of_entry}
use Rattle.tape_flush.specs.Images.{object_in}
use Rattle.tape_flush.specs.Stores.{FileValue}
use Rattle.tape_flush.specs.Careful.{trusted_to}
use Rattle.tape_flush.specs.Saved.{SavedImageValue, HasFirstOf, HoldsIn, ends_within}
use Rattle.tape_flush.proofs.Opened.{opened_holds}
use Rattle.tape_flush.proofs.opening.open_image.Goals as goal

pub returns-clause-whole : goal.returns-clause-whole
returns-clause-whole g c file objects stop known is reads same =
    let ends : List ℕ = ends_within c.args.trusted c.image.inside.ends.items in
    let are : ends ≡ ends_within c.args.trusted (map end_of_entry (map indexed objects)) = ap (ends_within c.args.trusted) (ap (λ (v : ImageEndsValue). v.ends) c.image.view_is ∙ same) in
    let there : HoldsIn (g.S.ImageStore.file c.args.store) (trusted_to c.args.trusted) ends (take (length ends) (map object_in objects)) (drop (length ends) (map object_in objects) ++ []) =
    subst (λ (f : Option FileValue). HoldsIn f (trusted_to c.args.trusted) ends (take (length ends) (map object_in objects)) (drop (length ends) (map object_in objects) ++ [])) (sym known)
    (opened_holds file c.args.trusted ends (map indexed objects) objects stop is reads refl are) in
    subst (λ (v : SavedImageValue g.row.S.Denot). HasFirstOf (map object_in objects) v) (sym c.opened.ensures) (drop (length ends) (map object_in objects) ++ [], there)
