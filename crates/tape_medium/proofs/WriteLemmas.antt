use Rattle.std.proofs.Common.{◌≡◌, ◌≢◌, replicate, ◌*◌, ◌/◌, ◌%◌, ℕ, ◌+◌, ◌-◌, ◌<◌, ◌≤◌, zero, suc, List, [], ◌∷◌, ◌++◌, length, take, drop, refl, ap, ◌∙◌, arith}
use Rattle.std.specs.Prelude.{slice_range}
use Rattle.std.proofs.lemmas.List.{length-take-le, take_at, drop_at, drop-drop, take_all}
use Rattle.tape_medium.specs.Object.{Object, Block, Mark}
use Rattle.tape_medium.specs.Tape.{blocks, marks}
use Rattle.tape_medium.specs.Store.{object, objects_in, end_after, IsIndex, IsKept, block_ends}
use Rattle.tape_medium.proofs.StoreLemmas.{object-mark, object-block, cut-le, shown-put, kept-put, IsIndex-take, IsIndex-append, end_after-append}

-- A BLOCK

pub slice_range-put : (bytes more : List ℕ) (k end : ℕ) → k ≤ length bytes → end ≡ k + length more → slice_range (take k bytes ++ more) k end ≡ more
slice_range-put bytes more k end le is =
    let front : length (take k bytes) ≡ k = length-take-le k bytes le in
    let rest : drop k (take k bytes ++ more) ≡ more = drop_at (take k bytes) more k front in
    let count : end - k ≡ length more = omega arith in
    rw (rest, count) (take_all (length more) more (omega arith))

pub kept-block : (bytes block ends : List ℕ) (at k end : ℕ) → IsKept bytes ends → k ≡ end_after 0 (take at ends) → end ≡ k + length block → IsKept (take k bytes ++ block) (take at ends ++ end ∷ [])
kept-block bytes block ends at k end kept is ends_at =
    kept-put bytes block ends (end ∷ []) at k kept is (omega arith, tt) ends_at

pub shown-block : (bytes block ends : List ℕ) (at k end : ℕ) (os : List Object) → objects_in bytes 0 ends ≡ os → IsKept bytes ends → k ≡ end_after 0 (take at ends) → 0 < length block → end ≡ k + length block → objects_in (take k bytes ++ block) 0 (take at ends ++ end ∷ []) ≡ take at os ++ Block block ∷ []
shown-block bytes block ends at k end os as_is kept is some ends_at =
    let le : k ≤ length bytes = omega (arith, cut-le bytes ends at kept) in
    let front : take k (take k bytes ++ block) ≡ take k bytes = take_at (take k bytes) block k (length-take-le k bytes le) in
    let put : objects_in (take k bytes ++ block) 0 (take at ends ++ end ∷ []) ≡ take at (objects_in bytes 0 ends) ++ object (take k bytes ++ block) k end ∷ [] = shown-put bytes (take k bytes ++ block) ends (end ∷ []) at k kept is front in
    let differs : end ≢ k = omega arith in
    let same : object (take k bytes ++ block) k end ≡ Block block = object-block (take k bytes ++ block) k end differs ∙ ap Block (slice_range-put bytes block k end le ends_at) in
    put ∙ ap (λ (os : List Object). take at os ++ object (take k bytes ++ block) k end ∷ []) as_is ∙ ap (λ (o : Object). take at os ++ o ∷ []) same

-- FILEMARKS

pub IsIndex-marks : (k count : ℕ) → IsIndex k (replicate count k)
IsIndex-marks k zero = tt
IsIndex-marks k (suc count) = (omega arith, IsIndex-marks k count)

pub end_after-marks : (k count : ℕ) → end_after k (replicate count k) ≡ k
end_after-marks k zero = refl
end_after-marks k (suc count) = end_after-marks k count

pub objects_in-marks : (xs : List ℕ) (k count : ℕ) → objects_in xs k (replicate count k) ≡ marks count
objects_in-marks xs k zero = refl
objects_in-marks xs k (suc count) =
    let first : object xs k k ≡ Mark = object-mark xs k k refl in
    let rest : objects_in xs k (replicate count k) ≡ marks count = objects_in-marks xs k count in
    cc

pub kept-marks : (bytes ends : List ℕ) (at k count : ℕ) → IsKept bytes ends → k ≡ end_after 0 (take at ends) → IsKept bytes (take at ends ++ replicate count k)
kept-marks bytes ends at k count kept is =
    let follows : IsIndex (end_after 0 (take at ends)) (replicate count k) = rw (← is) (IsIndex-marks k count) in
    let last : end_after 0 (take at ends ++ replicate count k) ≡ end_after (end_after 0 (take at ends)) (replicate count k) = end_after-append 0 (take at ends) (replicate count k) in
    let rest : end_after (end_after 0 (take at ends)) (replicate count k) ≡ k = rw (← is) (end_after-marks k count) in
    record {
      ordered = IsIndex-append 0 (take at ends) (replicate count k) (IsIndex-take 0 at ends kept.ordered) follows;
      whole = omega (arith, cut-le bytes ends at kept);
    }

pub shown-marks : (bytes ends : List ℕ) (at k count : ℕ) (os : List Object) → objects_in bytes 0 ends ≡ os → IsKept bytes ends → k ≡ end_after 0 (take at ends) → objects_in bytes 0 (take at ends ++ replicate count k) ≡ take at os ++ marks count
shown-marks bytes ends at k count os as_is kept is =
    rw (← as_is, ← objects_in-marks bytes k count) (shown-put bytes bytes ends (replicate count k) at k kept is refl)

-- BLOCKS OF ONE SIZE

pub IsIndex-blocks : (size count from : ℕ) → IsIndex from (block_ends size count from)
IsIndex-blocks size zero from = tt
IsIndex-blocks size (suc count) from = (omega arith, IsIndex-blocks size count (from + size))

pub end_after-blocks : (size count from : ℕ) → end_after from (block_ends size count from) ≡ from + count * size
end_after-blocks size zero from = omega arith
end_after-blocks size (suc count) from =
    let next : from + size + count * size ≡ from + suc count * size = grind arith in
    end_after-blocks size count (from + size) ∙ next

pub objects_in-blocks : (xs : List ℕ) (size count from : ℕ) → 0 < size → objects_in xs from (block_ends size count from) ≡ blocks size count (drop from xs)
objects_in-blocks xs size zero from some = refl
objects_in-blocks xs size (suc count) from some =
    let rest : objects_in xs (from + size) (block_ends size count (from + size)) ≡ blocks size count (drop (from + size) xs) = objects_in-blocks xs size count (from + size) some in
    let cut : drop size (drop from xs) ≡ drop (from + size) xs = drop-drop size from xs in
    let differs : from + size ≢ from = omega arith in
    let same : from + size - from ≡ size = omega arith in
    let first : object xs from (from + size) ≡ Block (take size (drop from xs)) = object-block xs from (from + size) differs ∙ ap (λ (n : ℕ). Block (take n (drop from xs))) same in
    ap (λ (o : Object). o ∷ objects_in xs (from + size) (block_ends size count (from + size))) first ∙ rw cut (ap (λ (os : List Object). Block (take size (drop from xs)) ∷ os) rest)

pub kept-blocks : (bytes more ends : List ℕ) (at k size count : ℕ) → IsKept bytes ends → k ≡ end_after 0 (take at ends) → length more ≡ count * size → IsKept (take k bytes ++ more) (take at ends ++ block_ends size count k)
kept-blocks bytes more ends at k size count kept is whole =
    kept-put bytes more ends (block_ends size count k) at k kept is (IsIndex-blocks size count k) (omega (arith, end_after-blocks size count k))

pub shown-blocks : (bytes more ends : List ℕ) (at k size count : ℕ) (os : List Object) → objects_in bytes 0 ends ≡ os → IsKept bytes ends → k ≡ end_after 0 (take at ends) → 0 < size → objects_in (take k bytes ++ more) 0 (take at ends ++ block_ends size count k) ≡ take at os ++ blocks size count more
shown-blocks bytes more ends at k size count os as_is kept is some =
    let le : k ≤ length bytes = omega (arith, cut-le bytes ends at kept) in
    let front : length (take k bytes) ≡ k = length-take-le k bytes le in
    let put : objects_in (take k bytes ++ more) 0 (take at ends ++ block_ends size count k) ≡ take at (objects_in bytes 0 ends) ++ objects_in (take k bytes ++ more) k (block_ends size count k) = shown-put bytes (take k bytes ++ more) ends (block_ends size count k) at k kept is (take_at (take k bytes) more k front) in
    let shown : objects_in (take k bytes ++ more) k (block_ends size count k) ≡ blocks size count (drop k (take k bytes ++ more)) = objects_in-blocks (take k bytes ++ more) size count k some in
    let rest : drop k (take k bytes ++ more) ≡ more = drop_at (take k bytes) more k front in
    rw (← as_is) (put ∙ ap (λ (bs : List Object). take at (objects_in bytes 0 ends) ++ bs) (rw rest at shown))

-- one more block still fits
pub next-fits : (from size count i n : ℕ) → i < count → from + count * size < n → from + i * size + size < n
next-fits from size count i n less fits = grind arith

pub whole-blocks : (n size : ℕ) → 0 < size → n % size ≡ 0 → n ≡ (n / size) * size
whole-blocks n size some whole = grind arith
