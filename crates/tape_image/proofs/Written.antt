-- What is written for an object is read as that object, and a piece of it as none.
use Rattle.std.proofs.Common.{◌≡◌, ℕ, ◌+◌, ◌%◌, ◌≤◌, ◌<◌, cond, eqb, inl, inr, List, ◌++◌, length, take, drop, refl, sym, ap, ◌∙◌, append_assoc, length-append, arith}
use Rattle.std.proofs.lemmas.Bool.{cases_lt, eq-eqb}
use Rattle.std.proofs.lemmas.List.{take_at, drop_at, drop-drop, length-take-le, length-take, length-replicate}
use Rattle.byteorder.specs.Endian.{little_bytes, little_number}
use Rattle.byteorder.specs.Numbers.{little_number-reads_back, little_from-take, length-bytes_low_first}
use Rattle.tape_medium.specs.Limits.{block_limit}
use Rattle.tape_medium.specs.Object.{Object, Block, Mark}
use Rattle.tape_image.specs.declared.fault.ImageFault.TheVariants.{UnequalLengths}
use Rattle.tape_image.specs.Images.{pad, padded, block_count, object_bytes, IsKeepable}
use Rattle.tape_image.specs.Parts.{PartValue, Partial, Complete, Invalid, measured, image_part}
use Rattle.tape_image.proofs.Parts.{part_is, short_is, there, not_there, measured_is}

length_pad : (size : ℕ) → length (pad size) ≡ size % 2
length_pad size = length-replicate (size % 2) 0

field : (size : ℕ) → length (little_bytes 4 size) ≡ 4
field size = length-bytes_low_first 0 4 size

pub length_block : (bytes : List ℕ) → length (object_bytes (Block bytes)) ≡ block_count (length bytes)
length_block bytes =
    let n = length bytes in
    length-append (little_bytes 4 (length bytes) ++ bytes ++ pad (length bytes)) (little_bytes 4 (length bytes))
    ∙ ap (λ (k : ℕ). k + length (little_bytes 4 (length bytes))) (length-append (little_bytes 4 (length bytes) ++ bytes)
    (pad (length bytes)) ∙ ap (λ (k : ℕ). k + length (pad (length bytes))) (length-append (little_bytes 4 (length bytes)) bytes))
    ∙ omega (arith, length_pad (length bytes), field (length bytes))

grouped : (a bytes p c rest : List ℕ) → (a ++ bytes ++ p ++ c) ++ rest ≡ a ++ (bytes ++ (p ++ (c ++ rest)))
grouped a bytes p c rest = simp append_assoc

-- the same bytes, with what follows them
whole : (bytes rest : List ℕ) → List ℕ
whole bytes rest = little_bytes 4 (length bytes) ++ (bytes ++ (pad (length bytes) ++ (little_bytes 4 (length bytes) ++ rest)))

is_whole : (bytes rest : List ℕ) → object_bytes (Block bytes) ++ rest ≡ whole bytes rest
unfolding whole
is_whole bytes rest = grouped (little_bytes 4 (length bytes)) bytes (pad (length bytes)) (little_bytes 4 (length bytes)) rest

length_first : (bytes rest : List ℕ) → length bytes ≤ block_limit → little_number 4 (whole bytes rest) ≡ length bytes
unfolding whole
length_first bytes rest most = little_number-reads_back 4 (length bytes) (bytes ++
    (pad (length bytes) ++ (little_bytes 4 (length bytes) ++ rest))) (omega arith)

behind_first : (bytes rest : List ℕ) → drop 4 (whole bytes rest) ≡ bytes ++ (pad (length bytes) ++ (little_bytes 4 (length bytes) ++ rest))
unfolding whole
behind_first bytes rest = drop_at (little_bytes 4 (length bytes)) (bytes ++ (pad (length bytes) ++ (little_bytes 4 (length bytes) ++ rest)))
    4 (field (length bytes))

behind_block : (bytes rest : List ℕ) → drop (4 + padded (length bytes)) (whole bytes rest) ≡ little_bytes 4 (length bytes) ++ rest
behind_block bytes rest =
    let n : 4 + padded (length bytes) ≡ (4 + length bytes) + length bytes % 2 = omega arith in
    ap (λ (k : ℕ). drop k (whole bytes rest)) n
    ∙ sym (drop-drop (length bytes % 2) (4 + length bytes) (whole bytes rest))
    ∙ ap (drop (length bytes % 2)) (sym (drop-drop (length bytes) 4 (whole bytes rest)) ∙ ap (drop (length bytes)) (behind_first bytes rest)
    ∙ drop_at bytes (pad (length bytes) ++ (little_bytes 4 (length bytes) ++ rest)) (length bytes) refl)
    ∙ drop_at (pad (length bytes)) (little_bytes 4 (length bytes) ++ rest) (length bytes % 2) (length_pad (length bytes))

length_whole : (bytes rest : List ℕ) → length (whole bytes rest) ≡ block_count (length bytes) + length rest
length_whole bytes rest =
    ap length (sym (is_whole bytes rest)) ∙ length-append (object_bytes (Block bytes)) rest ∙ ap (λ (k : ℕ). k + length rest)
    (length_block bytes)

same_lengths : (size : ℕ) (x : PartValue) → cond (eqb size size) x (Invalid UnequalLengths) ≡ x
same_lengths size x = rw (eq-eqb size size refl) refl

block_again : (bytes rest : List ℕ) → 1 ≤ length bytes → length bytes ≤ block_limit → image_part (whole bytes rest) ≡ Complete (Block bytes)
    (block_count (length bytes))
block_again bytes rest least most =
    let size = length_whole bytes rest in
    part_is (whole bytes rest) (omega (arith, size))
    ∙ ap (λ (n : ℕ). measured n (whole bytes rest)) (length_first bytes rest most)
    ∙ measured_is (length bytes) (whole bytes rest) least most
    ∙ there (length bytes) (whole bytes rest) (omega (arith, size))
    ∙ ap (λ (n : ℕ). cond (eqb n (length bytes)) (Complete (Block (take (length bytes) (drop 4 (whole bytes rest))))
    (block_count (length bytes))) (Invalid UnequalLengths))
    (ap (little_number 4) (behind_block bytes rest) ∙ little_number-reads_back 4 (length bytes) rest (omega arith))
    ∙ same_lengths (length bytes) _
    ∙ ap (λ (xs : List ℕ). Complete (Block xs) (block_count (length bytes)))
    (ap (take (length bytes)) (behind_first bytes rest) ∙ take_at bytes (pad (length bytes) ++ (little_bytes 4 (length bytes) ++ rest))
    (length bytes) refl)

-- an object that was written, and then anything
pub object_again : (x : Object) (rest : List ℕ) → IsKeepable x → image_part (object_bytes x ++ rest) ≡ Complete x (length (object_bytes x))
object_again (Block bytes) rest can =
    ap image_part (is_whole bytes rest) ∙ block_again bytes rest can.0 can.1 ∙ ap (λ (n : ℕ). Complete (Block bytes) n)
    (sym (length_block bytes))
object_again Mark rest can = part_is (object_bytes Mark ++ rest) (omega arith)

-- a piece of it
cut_block : (bytes rest : List ℕ) (n : ℕ) → 1 ≤ length bytes → length bytes ≤ block_limit → 4 ≤ n → n < block_count (length bytes)
    → image_part (take n (whole bytes rest)) ≡ Partial (block_count (length bytes))
cut_block bytes rest n least most four short =
    let size : length (take n (whole bytes rest)) ≡ n = length-take-le n (whole bytes rest) (omega (arith, length_whole bytes rest)) in
    part_is (take n (whole bytes rest)) (omega (arith, size))
    ∙ ap (λ (k : ℕ). measured k (take n (whole bytes rest))) (little_from-take 0 4 n (whole bytes rest) four ∙ length_first bytes rest most)
    ∙ measured_is (length bytes) (take n (whole bytes rest)) least most
    ∙ not_there (length bytes) (take n (whole bytes rest)) (omega (arith, size))

long_cut : (x : Object) (rest : List ℕ) (n : ℕ) → IsKeepable x → n < length (object_bytes x) → 4 ≤ n
    → (wanted : ℕ) × (image_part (take n (object_bytes x ++ rest)) ≡ Partial wanted)
long_cut (Block bytes) rest n can short four = (
  block_count (length bytes),
  ap (λ (xs : List ℕ). image_part (take n xs)) (is_whole bytes rest) ∙ cut_block bytes rest n can.0 can.1
      four (omega (arith, length_block bytes)),
)
long_cut Mark rest n can short four = absurd (omega arith)

pub object_cut : (x : Object) (rest : List ℕ) (n : ℕ) → IsKeepable x → n < length (object_bytes x)
    → (wanted : ℕ) × (image_part (take n (object_bytes x ++ rest)) ≡ Partial wanted)
object_cut x rest n can short = elim (cases_lt n 4) [
  | inl tiny ↦ (4, short_is (take n (object_bytes x ++ rest)) (omega (arith, length-take n (object_bytes x ++ rest))))
  | inr four ↦ long_cut x rest n can short four
]
