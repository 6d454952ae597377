use Rattle.std.proofs.Common.{◌≡◌, ◌≢◌, ℕ, ◌+◌, ◌<◌, ◌≤◌, zero, suc, Bool, true, false, List, [], ◌∷◌, ◌++◌, length, take, drop, get_or, sym, refl, ap, ◌∙◌, arith, cond, Some, length-append, eqb, eq-eqb}
use Rattle.std.specs.Prelude.{slice_range, slice_get}
use Rattle.std.proofs.lemmas.Bool.{eqb-true}
use Rattle.std.proofs.lemmas.Bool.Decides.{nat_tests}
use Rattle.std.proofs.lemmas.List.{take-take, length-take-le}
use Rattle.std.proofs.lemmas.List.Edits.{length-between}
use Rattle.std.proofs.lemmas.List.Sums.{sum_by-cons}
use Rattle.std.proofs.lemmas.Slice.{between_is}
use Rattle.tape_medium.specs.Object.{Object, Block, Mark}
use Rattle.tape_medium.specs.Tape.{size_of, is_mark, bytes_in}
use Rattle.tape_medium.specs.Store.{object, objects_in, end_after, IsIndex, IsKept}

-- ENDS

-- ends don't fall
pub IsIndex-le : (s : ℕ) (es : List ℕ) → IsIndex s es → s ≤ end_after s es
IsIndex-le s [] i = omega arith
IsIndex-le s (e ∷ es) i = omega (arith, IsIndex-le e es i.1)

pub IsIndex-take : (s at : ℕ) (es : List ℕ) → IsIndex s es → IsIndex s (take at es)
IsIndex-take s zero es i = tt
IsIndex-take s (suc at) [] i = tt
IsIndex-take s (suc at) (e ∷ es) i = (i.0, IsIndex-take e at es i.1)

pub IsIndex-append : (s : ℕ) (es fs : List ℕ) → IsIndex s es → IsIndex (end_after s es) fs → IsIndex s (es ++ fs)
IsIndex-append s [] fs i j = j
IsIndex-append s (e ∷ es) fs i j = (i.0, IsIndex-append e es fs i.1 j)

pub end_after-append : (s : ℕ) (es fs : List ℕ) → end_after s (es ++ fs) ≡ end_after (end_after s es) fs
end_after-append s [] fs = refl
end_after-append s (e ∷ es) fs = end_after-append e es fs

pub end_after-take-le : (s at : ℕ) (es : List ℕ) → IsIndex s es → end_after s (take at es) ≤ end_after s es
end_after-take-le s zero es i = IsIndex-le s es i
end_after-take-le s (suc at) [] i = omega arith
end_after-take-le s (suc at) (e ∷ es) i = end_after-take-le e at es i.1

pub end-order : (s at : ℕ) (es : List ℕ) (d : ℕ) → IsIndex s es → at < length es → end_after s (take at es) ≤ get_or es at d
end-order s zero [] d i h = omega arith
end-order s zero (e ∷ es) d i h = i.0
end-order s (suc at) [] d i h = omega arith
end-order s (suc at) (e ∷ es) d i h = end-order e at es d i.1 (omega arith)

-- OBJECTS

pub object-mark : (xs : List ℕ) (s e : ℕ) → e ≡ s → object xs s e ≡ Mark
object-mark xs s e is = ap (λ (b : Bool). cond b Mark (Block (slice_range xs s e))) (eq-eqb e s is)

-- numbers that differ, as a test says it
pub eqb-no : (a b : ℕ) → a ≢ b → eqb a b ≡ false
eqb-no a b ne = grind (arith, nat_tests)

pub object-block : (xs : List ℕ) (s e : ℕ) → e ≢ s → object xs s e ≡ Block (slice_range xs s e)
object-block xs s e ne = ap (λ (b : Bool). cond b Mark (Block (slice_range xs s e))) (eqb-no e s ne)

pub is_mark-object : (xs : List ℕ) (s e : ℕ) → is_mark (object xs s e) ≡ eqb e s
is_mark-object xs s e = elim (eqb e s) as (λ b. is_mark (cond b Mark (Block (slice_range xs s e))) ≡ b) [ true ↦ refl | false ↦ refl ]

pub slice_range-agree : (xs ys : List ℕ) (s e n : ℕ) → take n xs ≡ take n ys → e ≤ n → slice_range xs s e ≡ slice_range ys s e
slice_range-agree xs ys s e n same le =
    between_is xs s e ∙ ap (λ (zs : List ℕ). drop s zs) (sym (take-take e n xs le) ∙ ap (λ (zs : List ℕ). take e zs) same ∙ take-take e n ys le) ∙ sym (between_is ys s e)

pub object-agree : (xs ys : List ℕ) (s e n : ℕ) → take n xs ≡ take n ys → e ≤ n → object xs s e ≡ object ys s e
object-agree xs ys s e n same le =
    ap (λ (zs : List ℕ). cond (eqb e s) Mark (Block zs)) (slice_range-agree xs ys s e n same le)

-- bytes past the last end show nothing
pub objects_in-agree : (xs ys : List ℕ) (s n : ℕ) (es : List ℕ) → take n xs ≡ take n ys → IsIndex s es → end_after s es ≤ n → objects_in xs s es ≡ objects_in ys s es
objects_in-agree xs ys s n [] same i le = refl
objects_in-agree xs ys s n (e ∷ es) same i le =
    let first : object xs s e ≡ object ys s e = object-agree xs ys s e n same (omega (arith, IsIndex-le e es i.1)) in
    let rest : objects_in xs e es ≡ objects_in ys e es = objects_in-agree xs ys e n es same i.1 le in
    cc

pub length-objects_in : (xs : List ℕ) (s : ℕ) (es : List ℕ) → length (objects_in xs s es) ≡ length es
length-objects_in xs s [] = refl
length-objects_in xs s (e ∷ es) = ap suc (length-objects_in xs e es)

pub objects_in-append : (xs : List ℕ) (s : ℕ) (es fs : List ℕ) → objects_in xs s (es ++ fs) ≡ objects_in xs s es ++ objects_in xs (end_after s es) fs
objects_in-append xs s [] fs = refl
objects_in-append xs s (e ∷ es) fs = ap (λ (os : List Object). object xs s e ∷ os) (objects_in-append xs e es fs)

pub objects_in-take : (xs : List ℕ) (s at : ℕ) (es : List ℕ) → objects_in xs s (take at es) ≡ take at (objects_in xs s es)
objects_in-take xs s zero es = refl
objects_in-take xs s (suc at) [] = refl
objects_in-take xs s (suc at) (e ∷ es) = ap (λ (os : List Object). object xs s e ∷ os) (objects_in-take xs e at es)

pub objects_in-get : (xs : List ℕ) (s at : ℕ) (es : List ℕ) (d : ℕ) → at < length es → slice_get (objects_in xs s es) at ≡ Some (object xs (end_after s (take at es)) (get_or es at d))
objects_in-get xs s zero [] d h = let no : ⊥ = omega arith in absurd no
objects_in-get xs s zero (e ∷ es) d h = refl
objects_in-get xs s (suc at) [] d h = let no : ⊥ = omega arith in absurd no
objects_in-get xs s (suc at) (e ∷ es) d h = objects_in-get xs e at es d (omega arith)

pub is_mark-at : (xs : List ℕ) (s at : ℕ) (es : List ℕ) (d : ℕ) → at < length es → is_mark (get_or (objects_in xs s es) at Mark) ≡ eqb (get_or es at d) (end_after s (take at es))
is_mark-at xs s zero [] d h = let no : ⊥ = omega arith in absurd no
is_mark-at xs s zero (e ∷ es) d h = is_mark-object xs s e
is_mark-at xs s (suc at) [] d h = let no : ⊥ = omega arith in absurd no
is_mark-at xs s (suc at) (e ∷ es) d h = is_mark-at xs e at es d (omega arith)

-- an object takes the bytes from where the one before it ends
size-object : (xs : List ℕ) (s e : ℕ) (b : Bool) → eqb e s ≡ b → s ≤ e → e ≤ length xs → s + size_of (cond b Mark (Block (slice_range xs s e))) ≡ e
size-object xs s e true is le within = omega (arith, eqb-true e s is)
size-object xs s e false is le within = omega (arith, length-between xs s e within)

pub bytes_in-objects_in : (xs : List ℕ) (s : ℕ) (es : List ℕ) → IsIndex s es → end_after s es ≤ length xs → s + bytes_in (objects_in xs s es) ≡ end_after s es
bytes_in-objects_in xs s [] i le = omega arith
bytes_in-objects_in xs s (e ∷ es) i le =
    let rest : e + bytes_in (objects_in xs e es) ≡ end_after e es = bytes_in-objects_in xs e es i.1 le in
    let here : s + size_of (object xs s e) ≡ e = size-object xs s e (eqb e s) refl i.0 (omega (arith, IsIndex-le e es i.1)) in
    omega (arith, sum_by-cons size_of (object xs s e) (objects_in xs e es))

-- THE FIRST OBJECTS

-- they end within the bytes
pub cut-le : (bytes ends : List ℕ) (at : ℕ) → IsKept bytes ends → end_after 0 (take at ends) ≤ length bytes
cut-le bytes ends at kept = omega (arith, end_after-take-le 0 at ends kept.ordered, kept.whole)

pub bytes_in-behind : (bytes ends : List ℕ) (at : ℕ) → IsKept bytes ends → bytes_in (take at (objects_in bytes 0 ends)) ≡ end_after 0 (take at ends)
bytes_in-behind bytes ends at kept =
    let e : 0 + bytes_in (objects_in bytes 0 (take at ends)) ≡ end_after 0 (take at ends) = bytes_in-objects_in bytes 0 (take at ends) (IsIndex-take 0 at ends kept.ordered) (cut-le bytes ends at kept) in
    rw (← objects_in-take bytes 0 at ends) (omega arith)

-- a place within the objects is one within the ends
pub within-ends : (bytes ends : List ℕ) (at : ℕ) (os : List Object) → objects_in bytes 0 ends ≡ os → at ≤ length os → at ≤ length ends
within-ends bytes ends at os is le = omega (arith, length-objects_in bytes 0 ends, ap length is)

pub below-ends : (bytes ends : List ℕ) (at : ℕ) (os : List Object) → objects_in bytes 0 ends ≡ os → at < length os → at < length ends
below-ends bytes ends at os is le = omega (arith, length-objects_in bytes 0 ends, ap length is)

pub bytes-behind : (bytes ends : List ℕ) (at : ℕ) (os : List Object) → objects_in bytes 0 ends ≡ os → IsKept bytes ends → bytes_in (take at os) ≡ end_after 0 (take at ends)
bytes-behind bytes ends at os is kept = rw (← is) (bytes_in-behind bytes ends at kept)

pub cut-at : (bytes ends : List ℕ) (at k : ℕ) (os : List Object) → objects_in bytes 0 ends ≡ os → IsKept bytes ends → k ≡ bytes_in (take at os) → k ≡ end_after 0 (take at ends)
cut-at bytes ends at k os is kept e = e ∙ bytes-behind bytes ends at os is kept

-- READING one

pub found-mark : (bytes ends : List ℕ) (at s e : ℕ) (os : List Object) → objects_in bytes 0 ends ≡ os → at < length ends → s ≡ end_after 0 (take at ends) → e ≡ get_or ends at e → e ≡ s → slice_get os at ≡ Some Mark
found-mark bytes ends at s e os is h starts there mark =
    let got : slice_get (objects_in bytes 0 ends) at ≡ Some (object bytes (end_after 0 (take at ends)) (get_or ends at e)) = objects_in-get bytes 0 at ends e h in
    let shown : object bytes s e ≡ Mark = object-mark bytes s e mark in
    rw (← is, got, ← there, ← starts, shown) refl

pub found-block : (bytes ends : List ℕ) (at s e : ℕ) (os : List Object) → objects_in bytes 0 ends ≡ os → at < length ends → s ≡ end_after 0 (take at ends) → e ≡ get_or ends at e → e ≢ s → slice_get os at ≡ Some (Block (slice_range bytes s e))
found-block bytes ends at s e os is h starts there differs =
    let got : slice_get (objects_in bytes 0 ends) at ≡ Some (object bytes (end_after 0 (take at ends)) (get_or ends at e)) = objects_in-get bytes 0 at ends e h in
    let shown : object bytes s e ≡ Block (slice_range bytes s e) = object-block bytes s e differs in
    rw (← is, got, ← there, ← starts, shown) refl

pub is_mark-shown : (bytes ends : List ℕ) (at s e : ℕ) (os : List Object) → objects_in bytes 0 ends ≡ os → at < length ends → s ≡ end_after 0 (take at ends) → e ≡ get_or ends at e → eqb e s ≡ is_mark (get_or os at Mark)
is_mark-shown bytes ends at s e os is h starts there =
    rw (← is, starts) (ap (λ (n : ℕ). eqb n (end_after 0 (take at ends))) there ∙ sym (is_mark-at bytes 0 at ends e h))

-- WRITING: objects put behind the first `at`; `xs` begins with the bytes of those

pub shown-put : (bytes xs ends fs : List ℕ) (at k : ℕ) → IsKept bytes ends → k ≡ end_after 0 (take at ends) → take k xs ≡ take k bytes → objects_in xs 0 (take at ends ++ fs) ≡ take at (objects_in bytes 0 ends) ++ objects_in xs k fs
shown-put bytes xs ends fs at k kept is same =
    let split : objects_in xs 0 (take at ends ++ fs) ≡ objects_in xs 0 (take at ends) ++ objects_in xs (end_after 0 (take at ends)) fs = objects_in-append xs 0 (take at ends) fs in
    let agree : objects_in xs 0 (take at ends) ≡ objects_in bytes 0 (take at ends) = objects_in-agree xs bytes 0 k (take at ends) same (IsIndex-take 0 at ends kept.ordered) (omega arith) in
    let taken : objects_in bytes 0 (take at ends) ≡ take at (objects_in bytes 0 ends) = objects_in-take bytes 0 at ends in
    cc

pub kept-put : (bytes more ends fs : List ℕ) (at k : ℕ) → IsKept bytes ends → k ≡ end_after 0 (take at ends) → IsIndex k fs → end_after k fs ≡ k + length more → IsKept (take k bytes ++ more) (take at ends ++ fs)
kept-put bytes more ends fs at k kept is ordered ends_at =
    let le : k ≤ length bytes = omega (arith, cut-le bytes ends at kept) in
    let front : length (take k bytes) ≡ k = length-take-le k bytes le in
    let follows : IsIndex (end_after 0 (take at ends)) fs = rw (← is) ordered in
    let last : end_after 0 (take at ends ++ fs) ≡ end_after (end_after 0 (take at ends)) fs = end_after-append 0 (take at ends) fs in
    let rest : end_after (end_after 0 (take at ends)) fs ≡ k + length more = rw (← is) ends_at in
    record {
      ordered = IsIndex-append 0 (take at ends) fs (IsIndex-take 0 at ends kept.ordered) follows;
      whole = omega (arith, length-append (take k bytes) more);
    }
