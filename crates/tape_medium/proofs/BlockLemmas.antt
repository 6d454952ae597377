use Rattle.std.proofs.Common.{◌≡◌, ℕ, ◌+◌, ◌*◌, ◌/◌, ◌%◌, ◌<◌, ◌≤◌, zero, suc, List, [], ◌∷◌, length, take, drop, sym, refl, ap, ◌∙◌, arith, length-drop, length-append, ◌++◌}
use Rattle.std.proofs.lemmas.List.{length-take-le}
use Rattle.std.proofs.lemmas.List.Sums.{sum_by-cons, sum_by-append}
use Rattle.tape_medium.specs.Object.{Object, Block}
use Rattle.tape_medium.specs.Tape.{size_of, bytes_in, blocks}
use Rattle.std.specs.Prelude.{slice_get, Some}
use Rattle.tape_medium.specs.Limits.{object_limit}
use Rattle.tape_medium.specs.Kept.{IsTape}
use Rattle.tape_medium.proofs.WriteLemmas.{whole-blocks}

pub length-blocks : (size count : ℕ) (bytes : List ℕ) → length (blocks size count bytes) ≡ count
length-blocks size zero bytes = refl
length-blocks size (suc count) bytes = ap suc (length-blocks size count (drop size bytes))

pub bytes_in-blocks : (size count : ℕ) (bytes : List ℕ) → count * size ≤ length bytes → bytes_in (blocks size count bytes) ≡ count * size
bytes_in-blocks size zero bytes le = omega arith
bytes_in-blocks size (suc count) bytes le =
    let more : suc count * size ≡ size + count * size = grind arith in
    let rest : bytes_in (blocks size count (drop size bytes)) ≡ count * size = bytes_in-blocks size count (drop size bytes) (omega (arith, length-drop size bytes)) in
    omega (arith, sum_by-cons size_of (Block (take size bytes)) (blocks size count (drop size bytes)), length-take-le size bytes (omega arith))

pub bytes_in-whole : (size : ℕ) (bytes : List ℕ) → 0 < size → length bytes % size ≡ 0 → bytes_in (blocks size (length bytes / size) bytes) ≡ length bytes
bytes_in-whole size bytes some whole =
    let e : length bytes ≡ (length bytes / size) * size = whole-blocks (length bytes) size some whole in
    bytes_in-blocks size (length bytes / size) bytes (omega arith) ∙ sym e

pub ruleset block_sizes = (length-blocks, bytes_in-whole)

-- what is put at the position keeps a tape
pub IsTape-put : (os more : List Object) (at count capacity : ℕ) → IsTape os at capacity → length more ≡ count → bytes_in (take at os) + bytes_in more ≤ capacity → at + count ≤ object_limit → IsTape (take at os ++ more) (at + count) capacity
IsTape-put os more at count capacity kept counts fits few =
    let size : length (take at os ++ more) ≡ at + count = omega (arith, length-append (take at os) more, length-take-le at os kept.within) in
    record { within = omega arith; fits = omega (arith, sum_by-append size_of (take at os) more); few = omega arith; small = kept.small }

-- no block is longer than all the bytes
pub block-le : (os : List Object) (at : ℕ) (bytes : List ℕ) → slice_get os at ≡ Some (Block bytes) → length bytes ≤ bytes_in os
block-le [] at bytes h = cc
block-le (o ∷ os) zero bytes h =
    let is : o ≡ Block bytes = cc in
    let size : size_of o ≡ length bytes = ap size_of is in
    omega (arith, sum_by-cons size_of o os)
block-le (o ∷ os) (suc at) bytes h = omega (arith, sum_by-cons size_of o os, block-le os at bytes h)
