use Rattle.std.proofs.Common.{◌≡◌, ◌≤◌, rules, sym, ap, subst, ◌∙◌, arith}
use Rattle.tape_flush.specs.declared.known.Known.{Known}
use Rattle.tape_flush.specs.Saved.{SavedImageValue, Has, last_end}
use Rattle.tape_flush.specs.Bringing.{HasItsObjectsThere}
use Rattle.tape_flush.proofs.Bringing.{held_there}
use Rattle.tape_flush.proofs.saved_image.SavedImage.is_on_disk.Goals as goal

pub returns-clause-there : goal.returns-clause-there
returns-clause-there g c is objects others has =
    let below : c.last_end.result ≤ c.known.result.least = search rules in
    let end : c.last_end.result ≡ last_end c.self.inside.ends.items = c.last_end.ensures ∙ ap last_end c.deref.ensures.value in
    let least : c.known.result.least ≡ c.self.inside.file.known.least = ap (λ (k : Known). k.least) c.known.ensures in
    subst (λ (v : SavedImageValue g.row.S.Denot). HasItsObjectsThere v) c.self.view_is
    (held_there c.self.inside.file.known c.self.inside.ends.items objects others
    (g.S.ImageStore.file c.self.inside.file.store) c.self.invariant
    (omega (arith, below, end, least)) (subst (λ (v : SavedImageValue g.row.S.Denot). Has v objects others) (sym c.self.view_is) has))
