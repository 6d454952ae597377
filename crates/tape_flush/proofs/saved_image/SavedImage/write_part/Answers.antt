use Rattle.std.proofs.Common.{false, ◌≡◌, ◌≤◌, ℕ, List, length, refl, sym, ap, subst, ◌∙◌, arith}
use Rattle.tape_flush.specs.declared.known.Known.{Known}
use Rattle.tape_flush.specs.Images.{end_at, IsHeld}
use Rattle.tape_flush.specs.Careful.{stays, GoesOn}
use Rattle.tape_flush.specs.Saved.{SavedImageValue, image_of, Has, IsTaken}
use Rattle.tape_flush.proofs.Going.{in_order}
use Rattle.tape_flush.proofs.CopyLemmas.{wrote_part, without_part, fell, begun, not_behind}
use Rattle.tape_flush.proofs.Knowing.{goes_known}
use Rattle.tape_flush.proofs.saved_image.SavedImage.write_part.Goals as goal

pub returns-then-is_whole-clause-goes : goal.returns-then-is_whole-clause-goes
returns-then-is_whole-clause-goes g c = stays _ _

pub returns-then-is_whole-clause-whole : goal.returns-then-is_whole-clause-whole
returns-then-is_whole-clause-whole g c known others tape has follows taken =
    let ends = ap (λ (v : SavedImageValue g.row.S.Denot). length v.ends) c.self.view_is in
    let all : c.args.range.stay ≡ length c.args.self.now.ends = omega (arith, ends, taken.stay, c.min-stay.ensures, c.len.ensures, c.len-then-is_empty.ensures, c.if-stay-len.true) in
    (without_part c.args.self.now tape c.args.range c.args.part.now known others has follows taken (c.if-is_empty.ensures refl) all (c.if-is_whole.ensures.0 refl)).0

pub returns-then-is_whole-clause-ready : goal.returns-then-is_whole-clause-ready
returns-then-is_whole-clause-ready g c known others tape has follows taken =
    let ends = ap (λ (v : SavedImageValue g.row.S.Denot). length v.ends) c.self.view_is in
    let all : c.args.range.stay ≡ length c.args.self.now.ends = omega (arith, ends, taken.stay, c.min-stay.ensures, c.len.ensures, c.len-then-is_empty.ensures, c.if-stay-len.true) in
    (without_part c.args.self.now tape c.args.range c.args.part.now known others has follows taken (c.if-is_empty.ensures refl) all (c.if-is_whole.ensures.0 refl)).1

pub returns-then-end_at-known-clause-goes : goal.returns-then-end_at-known-clause-goes
returns-then-end_at-known-clause-goes g c = stays _ _

pub returns-then-end_at-known-clause-held : goal.returns-then-end_at-known-clause-held
returns-then-end_at-known-clause-held g c known others tape has follows taken =
    let ends = ap (λ (v : SavedImageValue g.row.S.Denot). v.ends) c.self.view_is in
    let stay : c.min-stay.result ≤ length c.args.self.now.ends = omega (arith, c.min-stay.ensures, c.len.ensures, ap length ends) in
    let same : end_at c.self.inside.ends.items c.min-stay.result ≡ end_at c.args.self.now.ends c.min-stay.result = ap (λ (es : List ℕ). end_at es c.min-stay.result) ends in
    let is : c.end_at.result ≡ end_at c.self.inside.ends.items c.min-stay.result = c.end_at.ensures ∙ ap (λ (es : List ℕ). end_at es c.min-stay.result) c.deref.ensures.value in
    let sound = ap (λ (k : Known). k.sound) c.known.ensures in
    let now = ap (λ (v : SavedImageValue g.row.S.Denot). v.known.sound) c.self.view_is in
    absurd (omega (arith, not_behind c.args.self.now known others c.min-stay.result has stay, same, is, sound, now, c.if-end_at-known.true))

pub returns-then-end_at-known-clause-begins : goal.returns-then-end_at-known-clause-begins
returns-then-end_at-known-clause-begins g c known others tape has held follows taken =
    let ends = ap (λ (v : SavedImageValue g.row.S.Denot). v.ends) c.self.view_is in
    let stay : c.min-stay.result ≤ length c.args.self.now.ends = omega (arith, c.min-stay.ensures, c.len.ensures, ap length ends) in
    let same : end_at c.self.inside.ends.items c.min-stay.result ≡ end_at c.args.self.now.ends c.min-stay.result = ap (λ (es : List ℕ). end_at es c.min-stay.result) ends in
    let is : c.end_at.result ≡ end_at c.self.inside.ends.items c.min-stay.result = c.end_at.ensures ∙ ap (λ (es : List ℕ). end_at es c.min-stay.result) c.deref.ensures.value in
    let sound = ap (λ (k : Known). k.sound) c.known.ensures in
    let now = ap (λ (v : SavedImageValue g.row.S.Denot). v.known.sound) c.self.view_is in
    absurd (omega (arith, not_behind c.args.self.now known others c.min-stay.result has stay, same, is, sound, now, c.if-end_at-known.true))

pub invariant_of-self : goal.invariant_of-self
invariant_of-self g c = in_order g.S.ImageStore.did _ _ _ _ c.self.invariant c.replace.ensures.goes

pub returns-clause-goes : goal.returns-clause-goes
returns-clause-goes g c =
    subst (λ (v : SavedImageValue g.row.S.Denot). GoesOn g.S.ImageStore.did v.store v.known c.replace.new.file.store c.replace.new.file.known) c.self.view_is c.replace.ensures.goes

pub returns-clause-whole : goal.returns-clause-whole
returns-clause-whole g c known others tape has follows taken =
    let inside : SavedImageValue g.row.S.Denot =
    record { ends = c.self.inside.ends.items; known = c.self.inside.file.known; store = c.self.inside.file.store; file = g.S.ImageStore.file c.self.inside.file.store; untouched = c.self.inside.is_untouched } in
    let new : SavedImageValue g.row.S.Denot =
    record { ends = c.replace.new.ends.items; known = c.replace.new.file.known; store = c.replace.new.file.store; file = g.S.ImageStore.file c.replace.new.file.store; untouched = false } in
    let has' : Has inside known others = subst (λ (v : SavedImageValue g.row.S.Denot). Has v known others) (sym c.self.view_is) has in
    let taken' : IsTaken inside tape c.args.range c.args.part.now = subst (λ (v : SavedImageValue g.row.S.Denot). IsTaken v tape c.args.range c.args.part.now) (sym c.self.view_is) taken in
    let here : c.min-stay.result ≡ c.args.range.stay = omega (arith, taken'.stay, c.min-stay.ensures, c.len.ensures) in
    (wrote_part c.replace.result inside new tape c.args.range c.args.part.now known others c.min-stay.result has' follows taken' here
    (λ is. goes_known g.S.ImageStore.did g.S.ImageStore.file g.met.S.ImageStore.does _ _ _ _ c.replace.ensures.goes is) c.replace.ensures.ok).0

pub returns-clause-ready : goal.returns-clause-ready
returns-clause-ready g c known others tape has follows taken =
    let inside : SavedImageValue g.row.S.Denot =
    record { ends = c.self.inside.ends.items; known = c.self.inside.file.known; store = c.self.inside.file.store; file = g.S.ImageStore.file c.self.inside.file.store; untouched = c.self.inside.is_untouched } in
    let new : SavedImageValue g.row.S.Denot =
    record { ends = c.replace.new.ends.items; known = c.replace.new.file.known; store = c.replace.new.file.store; file = g.S.ImageStore.file c.replace.new.file.store; untouched = false } in
    let has' : Has inside known others = subst (λ (v : SavedImageValue g.row.S.Denot). Has v known others) (sym c.self.view_is) has in
    let taken' : IsTaken inside tape c.args.range c.args.part.now = subst (λ (v : SavedImageValue g.row.S.Denot). IsTaken v tape c.args.range c.args.part.now) (sym c.self.view_is) taken in
    let here : c.min-stay.result ≡ c.args.range.stay = omega (arith, taken'.stay, c.min-stay.ensures, c.len.ensures) in
    (wrote_part c.replace.result inside new tape c.args.range c.args.part.now known others c.min-stay.result has' follows taken' here
    (λ is. goes_known g.S.ImageStore.did g.S.ImageStore.file g.met.S.ImageStore.does _ _ _ _ c.replace.ensures.goes is) c.replace.ensures.ok).1

pub returns-clause-held : goal.returns-clause-held
returns-clause-held g c known others tape has follows taken =
    let inside : SavedImageValue g.row.S.Denot =
    record { ends = c.self.inside.ends.items; known = c.self.inside.file.known; store = c.self.inside.file.store; file = g.S.ImageStore.file c.self.inside.file.store; untouched = c.self.inside.is_untouched } in
    let new : SavedImageValue g.row.S.Denot =
    record { ends = c.replace.new.ends.items; known = c.replace.new.file.known; store = c.replace.new.file.store; file = g.S.ImageStore.file c.replace.new.file.store; untouched = false } in
    let has' : Has inside known others = subst (λ (v : SavedImageValue g.row.S.Denot). Has v known others) (sym c.self.view_is) has in
    let taken' : IsTaken inside tape c.args.range c.args.part.now = subst (λ (v : SavedImageValue g.row.S.Denot). IsTaken v tape c.args.range c.args.part.now) (sym c.self.view_is) taken in
    let here : c.min-stay.result ≡ c.args.range.stay = omega (arith, taken'.stay, c.min-stay.ensures, c.len.ensures) in
    fell c.replace.result inside new tape c.args.range c.args.part.now known others c.min-stay.result has' follows taken' here
    (λ is. goes_known g.S.ImageStore.did g.S.ImageStore.file g.met.S.ImageStore.does _ _ _ _ c.replace.ensures.goes is) c.replace.ensures.err c.replace.ensures.ends

pub returns-clause-begins : goal.returns-clause-begins
returns-clause-begins g c known others tape has held follows taken =
    let inside : SavedImageValue g.row.S.Denot =
    record { ends = c.self.inside.ends.items; known = c.self.inside.file.known; store = c.self.inside.file.store; file = g.S.ImageStore.file c.self.inside.file.store; untouched = c.self.inside.is_untouched } in
    let new : SavedImageValue g.row.S.Denot =
    record { ends = c.replace.new.ends.items; known = c.replace.new.file.known; store = c.replace.new.file.store; file = g.S.ImageStore.file c.replace.new.file.store; untouched = false } in
    let has' : Has inside known others = subst (λ (v : SavedImageValue g.row.S.Denot). Has v known others) (sym c.self.view_is) has in
    let taken' : IsTaken inside tape c.args.range c.args.part.now = subst (λ (v : SavedImageValue g.row.S.Denot). IsTaken v tape c.args.range c.args.part.now) (sym c.self.view_is) taken in
    let here : c.min-stay.result ≡ c.args.range.stay = omega (arith, taken'.stay, c.min-stay.ensures, c.len.ensures) in
    let held' : IsHeld (image_of inside) known others = subst (λ (v : SavedImageValue g.row.S.Denot). IsHeld (image_of v) known others) (sym c.self.view_is) held in
    begun c.replace.result inside new tape c.args.range c.args.part.now known others c.min-stay.result has' held' follows taken' here
    c.replace.ensures.err c.replace.ensures.ends
