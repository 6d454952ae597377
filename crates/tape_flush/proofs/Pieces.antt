-- Images of several objects, and where these end.
use Rattle.std.proofs.Common.{◌≡◌, ℕ, ◌+◌, ◌-◌, ◌≤◌, zero, suc, List, [], ◌∷◌, ◌++◌, length, take, drop, Some, refl, sym, ap, ◌∙◌, append_assoc, length-append, arith}
use Rattle.std.proofs.lemmas.List.{append-nil}
use Rattle.std.specs.Prelude.{slice_get}
use Rattle.std.proofs.lemmas.List.Elements.{All-head, All-tail}
use Rattle.tape_medium.specs.Object.{Object, Block, Mark}
use Rattle.tape_medium.specs.Kept.{HasLength, HaveLengths}
use Rattle.tape_image.specs.Images.{object_bytes, image_bytes, IsKeepable, AreKeepable}
use Rattle.tape_flush.specs.Images.{ends_from}

pub image-append : (xs ys : List Object) → image_bytes (xs ++ ys) ≡ image_bytes xs ++ image_bytes ys
image-append [] ys = refl
image-append (x ∷ xs) ys = ap (λ (b : List ℕ). object_bytes x ++ b) (image-append xs ys) ∙ sym (append_assoc (object_bytes x) (image_bytes xs) (image_bytes ys))

pub keepable-drop : (n : ℕ) (xs : List Object) → AreKeepable xs → AreKeepable (drop n xs)
keepable-drop zero xs can = can
keepable-drop (suc n) [] can = can
keepable-drop (suc n) (x ∷ xs) can = keepable-drop n xs can.1

pub keepable-take : (n : ℕ) (xs : List Object) → AreKeepable xs → AreKeepable (take n xs)
keepable-take zero xs can = tt
keepable-take (suc n) [] can = can
keepable-take (suc n) (x ∷ xs) can = (can.0, keepable-take n xs can.1)

-- a tape's objects can be kept
pub has_length : (x : Object) → HasLength x → IsKeepable x
has_length (Block bytes) h = h
has_length Mark h = tt

pub keepable_all : (xs : List Object) → HaveLengths xs → AreKeepable xs
keepable_all [] all = tt
keepable_all (x ∷ xs) all = (has_length x (All-head HasLength x xs all), keepable_all xs (All-tail HasLength x xs all))

-- one object more
pub image_push : (xs : List Object) (x : Object) → image_bytes (xs ++ x ∷ []) ≡ image_bytes xs ++ object_bytes x
image_push xs x = image-append xs (x ∷ []) ∙ ap (λ (b : List ℕ). image_bytes xs ++ b) (append-nil (object_bytes x))

-- where the last of them ends
pub last_from : ℕ → List Object → ℕ
last_from o xs = o + length (image_bytes xs)

pub last_from-push : (o : ℕ) (xs : List Object) (x : Object) → last_from o (xs ++ x ∷ []) ≡ last_from o xs + length (object_bytes x)
unfolding last_from
last_from-push o xs x = omega (arith, ap length (image_push xs x), length-append (image_bytes xs) (object_bytes x))

pub last_from-nil : (o : ℕ) → last_from o [] ≡ o
unfolding last_from
last_from-nil o = omega arith

pub ends-append : (o : ℕ) (xs ys : List Object) → ends_from o (xs ++ ys) ≡ ends_from o xs ++ ends_from (last_from o xs) ys
unfolding last_from
ends-append o [] ys = let e : o ≡ o + 0 = omega arith in ap (λ (k : ℕ). ends_from k ys) e
ends-append o (x ∷ xs) ys =
    let e : o + length (object_bytes x) + length (image_bytes xs) ≡ o + length (image_bytes (x ∷ xs)) = omega (arith, length-append (object_bytes x) (image_bytes xs)) in
    ap (λ (es : List ℕ). (o + length (object_bytes x)) ∷ es)
    (ends-append (o + length (object_bytes x)) xs ys ∙ ap (λ (k : ℕ). ends_from (o + length (object_bytes x)) xs ++ ends_from k ys) e)

pub ends_push : (o : ℕ) (xs : List Object) (x : Object) → ends_from o (xs ++ x ∷ []) ≡ ends_from o xs ++ last_from o (xs ++ x ∷ []) ∷ []
ends_push o xs x = ends-append o xs (x ∷ []) ∙ ap (λ (k : ℕ). ends_from o xs ++ k ∷ []) (sym (last_from-push o xs x))

pub length-ends : (o : ℕ) (xs : List Object) → length (ends_from o xs) ≡ length xs
length-ends o [] = refl
length-ends o (x ∷ xs) = ap suc (length-ends (o + length (object_bytes x)) xs)

pub take-ends : (n o : ℕ) (xs : List Object) → take n (ends_from o xs) ≡ ends_from o (take n xs)
take-ends zero o xs = refl
take-ends (suc n) o [] = refl
take-ends (suc n) o (x ∷ xs) = ap (λ (es : List ℕ). (o + length (object_bytes x)) ∷ es) (take-ends n (o + length (object_bytes x)) xs)

-- A LOOP OVER OBJECTS, from one on: one more of them

-- the object behind the first ones
next_is : (os : List Object) (from at : ℕ) (x : Object) → from ≤ at → slice_get os at ≡ Some x → slice_get (drop from os) (at - from) ≡ Some x
next_is os zero at x le is = let same : at - 0 ≡ at = omega arith in rw same is
next_is [] (suc from) at x le is = absurd cc
next_is (o ∷ os) (suc from) zero x le is = absurd (omega arith)
next_is (o ∷ os) (suc from) (suc at) x le is = let same : suc at - suc from ≡ at - from = omega arith in rw same (next_is os from at x (omega arith) is)

taken_more : (xs : List Object) (i : ℕ) (x : Object) → slice_get xs i ≡ Some x → take (i + 1) xs ≡ take i xs ++ x ∷ []
taken_more [] i x is = absurd cc
taken_more (y ∷ xs) zero x is = let same : y ≡ x = cc in ap (λ (z : Object). z ∷ []) same
taken_more (y ∷ xs) (suc i) x is = let next : suc i + 1 ≡ suc (i + 1) = omega arith in rw next (ap (λ (ys : List Object). y ∷ ys) (taken_more xs i x is))

lent_more : (os : List Object) (from at : ℕ) (x : Object) → from ≤ at → slice_get os at ≡ Some x → take (at + 1 - from) (drop from os) ≡ take (at - from) (drop from os) ++ x ∷ []
lent_more os from at x le is =
    let next : at + 1 - from ≡ at - from + 1 = omega arith in
    rw next (taken_more (drop from os) (at - from) x (next_is os from at x le is))

pub gathered : (os : List Object) (from at : ℕ) (x : Object) (front piece piece' : List ℕ) → from ≤ at → slice_get os at ≡ Some x → piece ≡ front ++ image_bytes (take (at - from) (drop from os))
    → piece' ≡ piece ++ object_bytes x → piece' ≡ front ++ image_bytes (take (at + 1 - from) (drop from os))
gathered os from at x front piece piece' le is before more =
    let A : List Object = take (at - from) (drop from os) in
    more ∙ ap (λ (b : List ℕ). b ++ object_bytes x) before
    ∙ append_assoc front (image_bytes A) (object_bytes x)
    ∙ ap (λ (b : List ℕ). front ++ b) (sym (image_push A x) ∙ ap image_bytes (sym (lent_more os from at x le is)))

pub next_end : (os : List Object) (from at : ℕ) (x : Object) (o end next : ℕ) → from ≤ at → slice_get os at ≡ Some x → end ≡ last_from o (take (at - from) (drop from os))
    → next ≡ end + length (object_bytes x) → next ≡ last_from o (take (at + 1 - from) (drop from os))
next_end os from at x o end next le is before sum =
    let here : last_from o (take (at - from) (drop from os) ++ x ∷ []) ≡ last_from o (take (at - from) (drop from os)) + length (object_bytes x) = last_from-push o (take (at - from) (drop from os)) x in
    let more : last_from o (take (at + 1 - from) (drop from os)) ≡ last_from o (take (at - from) (drop from os) ++ x ∷ []) = ap (last_from o) (lent_more os from at x le is) in
    omega (arith, here, more)

pub next_ends : (os : List Object) (from at : ℕ) (x : Object) (o next : ℕ) (front ends ends' : List ℕ) → from ≤ at → slice_get os at ≡ Some x
    → ends ≡ front ++ ends_from o (take (at - from) (drop from os)) → ends' ≡ ends ++ next ∷ [] → next ≡ last_from o (take (at + 1 - from) (drop from os))
    → ends' ≡ front ++ ends_from o (take (at + 1 - from) (drop from os))
next_ends os from at x o next front ends ends' le is before more same =
    let A : List Object = take (at - from) (drop from os) in
    more ∙ ap (λ (es : List ℕ). es ++ next ∷ []) before ∙ append_assoc front (ends_from o A) (next ∷ [])
    ∙ ap (λ (k : ℕ). front ++ (ends_from o A ++ k ∷ [])) (same ∙ ap (last_from o) (lent_more os from at x le is))
    ∙ ap (λ (es : List ℕ). front ++ es) (sym (ends_push o A x) ∙ ap (ends_from o) (sym (lent_more os from at x le is)))

pub none_taken : (from : ℕ) (xs : List Object) → take (from - from) xs ≡ []
none_taken from xs = let zero_left : from - from ≡ 0 = omega arith in rw zero_left refl
