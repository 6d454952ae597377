-- Which tags lie somewhere at a start, and which are missing.
use Rattle.std.proofs.Common.{◌≡◌, ℕ, ◌≤◌, Bool, true, false, not, ◌&&◌, ◌||◌, List, [], ◌∷◌, ◌++◌, length, map, filter, refl, sym, ap, ◌∙◌, arith}
use Rattle.std.specs.Prelude.{zip, if◌then◌else◌}
use Rattle.std.proofs.lemmas.Bool.{false≢true}
use Rattle.std.specs.List.{list_any, fold}
use Rattle.std.proofs.lemmas.List.Folds.{list_any-append}
use Rattle.std.proofs.lemmas.List.Sorted.{list_any-IsPermutation}
use Rattle.std.proofs.lemmas.Slice.Eq.{bytes_eq-Decides}
use Rattle.tape_medium.specs.declared.volume.VolumeTag.{VolumeTag}
use Rattle.library_inventory.specs.declared.placed.PlacedVolume.{PlacedVolume}
use Rattle.library_inventory.specs.declared.placing.Start.{Start}
use Rattle.library_inventory.specs.Tags.{same_tag}
use Rattle.library_inventory.specs.Tests.{has_tag, is_named, is_full}
use Rattle.library_inventory.specs.Starts.{kept_volumes, put_back, lying_volumes, without_image, absent_volumes, other_images, free_storage, stored_at, IsStart}

same : (s t : VolumeTag) → same_tag s t ≡ true → s ≡ t
same s t e = ap (λ (b : List ℕ). let tag : VolumeTag = record { 0 = b } in tag) ((bytes_eq-Decides s.0 t.0).0 e)

not_both : true ≡ false → ⊥
not_both e = false≢true (sym e)

-- one element more of a filtered list: it passes the test, or doesn't; the filter keeps it, or doesn't
one_more : (px qx b : Bool) (rest kept : Bool) → (px ≡ true → qx ≡ b) → kept ≡ (b && rest) → (if qx then px || kept else kept) ≡ (b && (px || rest))
one_more true true true rest kept alike h = refl
one_more true true false rest kept alike h = absurd (not_both (alike refl))
one_more true false true rest kept alike h = absurd (not_both (sym (alike refl)))
one_more true false false rest kept alike h = h
one_more false true true rest kept alike h = h
one_more false true false rest kept alike h = h
one_more false false true rest kept alike h = h
one_more false false false rest kept alike h = h

filtered : {X : Type 0} (p q : X → Bool) (x : X) (xs : List X) (qx : Bool) → q x ≡ qx → list_any p (filter q (x ∷ xs)) ≡ (if qx then p x || list_any p (filter q xs) else list_any p (filter q xs))
filtered p q x xs true e = rw e refl
filtered p q x xs false e = rw e refl

-- those of a filtered list, where the filter keeps all that pass the test, or none
any-filter : {X : Type 0} (p q : X → Bool) (b : Bool) (xs : List X) → ((x : X) → p x ≡ true → q x ≡ b) → list_any p (filter q xs) ≡ (b && list_any p xs)
any-filter p q true [] alike = refl
any-filter p q false [] alike = refl
any-filter p q b (x ∷ xs) alike =
    filtered p q x xs (q x) refl ∙ one_more (p x) (q x) b (list_any p xs) (list_any p (filter q xs)) (alike x) (any-filter p q b xs alike)

-- volumes that are stored have the tags that they are stored with
any-stored : (t : VolumeTag) (tags : List VolumeTag) (numbers : List ℕ) → length tags ≤ length numbers → is_named (map stored_at (zip tags numbers)) t ≡ has_tag tags t
any-stored t [] numbers within = refl
any-stored t (tag ∷ tags) [] within = absurd (omega arith)
any-stored t (tag ∷ tags) (n ∷ numbers) within = ap (λ (b : Bool). same_tag tag t || b) (any-stored t tags numbers (omega arith))

-- one of two, of which the second stands alone behind others
either : {C : Type 0} (a b : Bool) → (a ≡ true → C) → (b ≡ true → C) → (a || (b || false)) ≡ true → C
either true b first second e = first refl
either false true first second e = second refl
either false false first second e = absurd (false≢true e)

both_true : (a b : Bool) → (a && b) ≡ true → a ≡ true
both_true true b e = refl
both_true false b e = absurd (false≢true e)

kept-had : (t : VolumeTag) (named : List PlacedVolume) (images : List VolumeTag) → is_named (kept_volumes named images) t ≡ true → has_tag images t ≡ true
kept-had t named images e =
    both_true (has_tag images t) (is_named named t)
    (sym (any-filter (λ (v : PlacedVolume). same_tag v.tag t) (λ (v : PlacedVolume). has_tag images v.tag) (has_tag images t) named
    (λ v s. ap (has_tag images) (same v.tag t s))) ∙ e)

-- who is put back has an image, as the others have
put_back-had : (t : VolumeTag) (images : List VolumeTag) (others : List PlacedVolume) (volume : PlacedVolume) (i f : Bool) → has_tag images volume.tag ≡ i
    → (is_named others t ≡ true → has_tag images t ≡ true)
    → is_named (if i && not f then others ++ volume ∷ [] else others) t ≡ true → has_tag images t ≡ true
put_back-had t images others volume true false image had e =
    either (is_named others t) (same_tag volume.tag t) had (λ s. ap (has_tag images) (sym (same volume.tag t s)) ∙ image)
    (sym (list_any-append (λ (v : PlacedVolume). same_tag v.tag t) others (volume ∷ [])) ∙ e)
put_back-had t images others volume true true image had e = had e
put_back-had t images others volume false f image had e = had e

back-had : (t : VolumeTag) (images : List VolumeTag) (others missing : List PlacedVolume) → (is_named others t ≡ true → has_tag images t ≡ true)
    → is_named (fold (put_back images) others missing) t ≡ true → has_tag images t ≡ true
back-had t images others [] had e = had e
back-had t images others (volume ∷ missing) had e =
    back-had t images (put_back images others volume) missing
    (put_back-had t images others volume (has_tag images volume.tag) (is_full others volume.element) refl had) e

lying-had : (t : VolumeTag) (named missing : List PlacedVolume) (images : List VolumeTag) → is_named (lying_volumes named missing images) t ≡ true → has_tag images t ≡ true
lying-had t named missing images e = back-had t images (kept_volumes named images) missing (kept-had t named images) e

others-had : (t : VolumeTag) (lying : List PlacedVolume) (images : List VolumeTag) → has_tag (other_images lying images) t ≡ (not (is_named lying t) && has_tag images t)
others-had t lying images =
    any-filter (λ (s : VolumeTag). same_tag s t) (λ (s : VolumeTag). not (is_named lying s)) (not (is_named lying t)) images
    (λ s e. ap (λ (r : VolumeTag). not (is_named lying r)) (same s t e))

together : (l i m : Bool) → (l ≡ true → i ≡ true) → (l || ((not l && i) || m)) ≡ (i || m)
together true true m within = refl
together true false m within = absurd (false≢true (within refl))
together false i m within = refl

pub all_lie : (slots least : ℕ) (named missing : List PlacedVolume) (images left_out : List VolumeTag) (start : Start) (t : VolumeTag)
    → IsStart slots least named missing images left_out start → is_named start.volumes.items t ≡ (has_tag images t || has_tag start.made.items t)
all_lie slots least named missing images left_out start t s =
    let lying : List PlacedVolume = lying_volumes named missing images in
    let test = λ (r : VolumeTag). same_tag r t in
    let others : has_tag s.others t ≡ (has_tag (other_images lying images) t || has_tag start.made.items t) =
    sym (list_any-IsPermutation test (other_images lying images ++ start.made.items) s.others s.same) ∙ list_any-append test (other_images lying images) start.made.items in
    ap (λ (vs : List PlacedVolume). is_named vs t) s.volumes
    ∙ list_any-append (λ (v : PlacedVolume). same_tag v.tag t) lying (map stored_at (zip s.others (free_storage slots lying)))
    ∙ ap (λ (b : Bool). is_named lying t || b)
    (any-stored t s.others (free_storage slots lying) s.enough ∙ others ∙ ap (λ (b : Bool). b || has_tag start.made.items t) (others-had t lying images))
    ∙ together (is_named lying t) (has_tag images t) (has_tag start.made.items t) (lying-had t named missing images)

without-had : (t : VolumeTag) (volumes : List PlacedVolume) (images : List VolumeTag) → is_named (without_image volumes images) t ≡ (not (has_tag images t) && is_named volumes t)
without-had t volumes images =
    any-filter (λ (v : PlacedVolume). same_tag v.tag t) (λ (v : PlacedVolume). not (has_tag images v.tag)) (not (has_tag images t)) volumes
    (λ v e. ap (λ (r : VolumeTag). not (has_tag images r)) (same v.tag t e))

absent-had : (t : VolumeTag) (named missing : List PlacedVolume) (images : List VolumeTag)
    → is_named (absent_volumes named missing images) t ≡ ((not (has_tag images t) && is_named named t) || (not (has_tag images t) && is_named missing t))
absent-had t named missing images =
    list_any-append (λ (v : PlacedVolume). same_tag v.tag t) (without_image named images) (without_image missing images)
    ∙ ap (λ (b : Bool). b || is_named (without_image missing images) t) (without-had t named images)
    ∙ ap (λ (b : Bool). (not (has_tag images t) && is_named named t) || b) (without-had t missing images)

nobody_more : (i m n x : Bool) → ((i || m) || ((not i && n) || (not i && x))) ≡ ((i || m) || (n || x))
nobody_more true m n x = refl
nobody_more false m n x = refl

pub all_known : (slots least : ℕ) (named missing : List PlacedVolume) (images left_out : List VolumeTag) (start : Start) (t : VolumeTag)
    → IsStart slots least named missing images left_out start
    → (is_named start.volumes.items t || is_named start.missing.items t)
    ≡ ((has_tag images t || has_tag start.made.items t) || (is_named named t || is_named missing t))
all_known slots least named missing images left_out start t s =
    ap (λ (b : Bool). b || is_named start.missing.items t) (all_lie slots least named missing images left_out start t s)
    ∙ ap (λ (b : Bool). (has_tag images t || has_tag start.made.items t) || b)
    (ap (λ (vs : List PlacedVolume). is_named vs t) s.absent ∙ absent-had t named missing images)
    ∙ nobody_more (has_tag images t) (has_tag start.made.items t) (is_named named t) (is_named missing t)
