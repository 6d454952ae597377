-- What an image begins with: some of its bytes, which stay whatever follows.
use Rattle.std.proofs.Common.{◌≡◌, ℕ, ◌+◌, ◌≤◌, ◌<◌, Bool, true, false, cond, ltb, leb, eqb, inl, inr, List, ◌++◌, length, take, drop, refl, sym, ap, subst, ◌∙◌, length-append, length-drop, arith}
use Rattle.std.proofs.lemmas.Bool.{le-ltb, lt-ltb, lt-leb, cases_lt, ne_eqb}
use Rattle.std.proofs.lemmas.List.{take-append-le, drop-append-le}
use Rattle.byteorder.specs.Endian.{little_number}
use Rattle.byteorder.specs.Numbers.{little_from-append}
use Rattle.tape_medium.specs.Limits.{block_limit}
use Rattle.tape_medium.specs.Object.{Block, Mark}
use Rattle.tape_image.specs.declared.fault.ImageFault.TheVariants.{UnknownClass, TooLong, UnequalLengths}
use Rattle.tape_image.specs.Images.{padded, block_count}
use Rattle.tape_image.specs.Parts.{PartValue, Partial, Complete, Gap, End, Invalid, IsKnown, sized, measured, image_part}

pub part_is : (b : List ℕ) → 4 ≤ length b → image_part b ≡ measured (little_number 4 b) b
unfolding image_part
part_is b four = let here : ltb (length b) 4 ≡ false = le-ltb _ _ four in rw here refl

pub short_is : (b : List ℕ) → length b < 4 → image_part b ≡ Partial 4
unfolding image_part
short_is b short = let here : ltb (length b) 4 ≡ true = lt-ltb _ _ short in rw here refl

-- the tests of a length
unfoldable pub chosen : (a b c d e : Bool) → PartValue → PartValue
chosen a b c d e p = cond a (Complete Mark 4) (cond b End (cond c Gap (cond d (Invalid UnknownClass) (cond e (Invalid TooLong) p))))

chosen_stays : (a b c d e : Bool) (p p' : PartValue) → (IsKnown p → p' ≡ p) → IsKnown (chosen a b c d e p) → chosen a b c d e p' ≡ chosen a
    b c d e p
unfolding chosen
chosen_stays true b c d e p p' h known = refl
chosen_stays false true c d e p p' h known = refl
chosen_stays false false true d e p p' h known = refl
chosen_stays false false false true e p p' h known = refl
chosen_stays false false false false true p p' h known = refl
chosen_stays false false false false false p p' h known = h known

-- a part is some of so many bytes
abbrev pub IsSome : ℕ → PartValue → Type 0
IsSome len (Complete x count) = (4 ≤ count) × (count ≤ len)
IsSome len Gap = 4 ≤ len
IsSome len _ = Unit {0}

chosen_some : (a b c d e : Bool) (p : PartValue) (len : ℕ) → 4 ≤ len → IsSome len p → IsSome len (chosen a b c d e p)
unfolding chosen
chosen_some true b c d e p len four h = (omega arith, four)
chosen_some false true c d e p len four h = tt
chosen_some false false true d e p len four h = four
chosen_some false false false true e p len four h = tt
chosen_some false false false false true p len four h = tt
chosen_some false false false false false p len four h = h

-- a block that is there
agreed : (size count : ℕ) (same : Bool) (bytes : List ℕ) → PartValue
agreed size count same bytes = cond same (Complete (Block bytes) count) (Invalid UnequalLengths)

agreed_some : (size count : ℕ) (same : Bool) (bytes : List ℕ) (len : ℕ) → 4 ≤ count → count ≤ len → IsSome len
    (agreed size count same bytes)
unfolding agreed
agreed_some size count true bytes len least most = (least, most)
agreed_some size count false bytes len least most = tt

pub there : (size : ℕ) (b : List ℕ) → block_count size ≤ length b
    → sized size b ≡ cond (eqb (little_number 4 (drop (4 + padded size) b)) size)
    (Complete (Block (take size (drop 4 b))) (block_count size)) (Invalid UnequalLengths)
there size b long = let here : ltb (length b) (block_count size) ≡ false = le-ltb _ _ long in rw here refl

pub not_there : (size : ℕ) (b : List ℕ) → length b < block_count size → sized size b ≡ Partial (block_count size)
not_there size b short = let here : ltb (length b) (block_count size) ≡ true = lt-ltb _ _ short in rw here refl

sized_some : (size : ℕ) (b : List ℕ) → IsSome (length b) (sized size b)
unfolding agreed
sized_some size b = elim (cases_lt (length b) (block_count size)) [
  | inl short ↦ subst (IsSome (length b)) (sym (not_there size b short)) tt
  | inr long ↦ subst (IsSome (length b)) (sym (there size b long))
      (agreed_some size (block_count size) (eqb (little_number 4 (drop (4 + padded size) b)) size) (take size (drop 4 b)) (length b)
      (omega arith) long)
]

pub is_some : (b : List ℕ) → IsSome (length b) (image_part b)
unfolding chosen
is_some b = elim (cases_lt (length b) 4) [
  | inl short ↦ subst (IsSome (length b)) (sym (short_is b short)) tt
  | inr four ↦ subst (IsSome (length b)) (sym (part_is b four)) (chosen_some _ _ _ _ _ (sized (little_number 4 b) b) (length b) four
      (sized_some (little_number 4 b) b))
]

-- more bytes change nothing
sized_stays : (size : ℕ) (b more : List ℕ) → IsKnown (sized size b) → sized size (b ++ more) ≡ sized size b
sized_stays size b more known = elim (cases_lt (length b) (block_count size)) [
  | inl short ↦ absurd (subst IsKnown (not_there size b short) known)
  | inr long ↦ (
      let rest : 4 ≤ length (drop (4 + padded size) b) = omega (arith, length-drop (4 + padded size) b) in
      let again : little_number 4 (drop (4 + padded size) (b ++ more)) ≡ little_number 4 (drop (4 + padded size) b) =
      ap (little_number 4) (drop-append-le (4 + padded size) b more (omega arith)) ∙ little_from-append 4 (drop (4 + padded size) b) more
      rest in
      let front : size ≤ length (drop 4 b) = omega (arith, length-drop 4 b) in
      let bytes : take size (drop 4 (b ++ more)) ≡ take size (drop 4 b) =
      ap (take size) (drop-append-le 4 b more (omega arith)) ∙ take-append-le size (drop 4 b) more front in
      there size (b ++ more) (omega (arith, length-append b more))
      ∙ ap (λ (n : ℕ). cond (eqb n size) (Complete (Block (take size (drop 4 (b ++ more)))) (block_count size)) (Invalid UnequalLengths))
      again
      ∙ ap (λ (xs : List ℕ). cond (eqb (little_number 4 (drop (4 + padded size) b)) size) (Complete (Block xs) (block_count size))
      (Invalid UnequalLengths)) bytes
      ∙ sym (there size b long))
]

measured_stays : (word : ℕ) (b more : List ℕ) → IsKnown (measured word b) → measured word (b ++ more) ≡ measured word b
unfolding chosen
measured_stays word b more known = chosen_stays _ _ _ _ _ (sized word b) (sized word (b ++ more)) (sized_stays word b more) known

pub part_stays : (b more : List ℕ) → IsKnown (image_part b) → image_part (b ++ more) ≡ image_part b
part_stays b more known = elim (cases_lt (length b) 4) [
  | inl short ↦ absurd (subst IsKnown (short_is b short) known)
  | inr four ↦ (
      part_is (b ++ more) (omega (arith, length-append b more))
      ∙ ap (λ (n : ℕ). measured n (b ++ more)) (little_from-append 4 b more four)
      ∙ measured_stays (little_number 4 b) b more (subst IsKnown (part_is b four) known)
      ∙ sym (part_is b four))
]

-- the length of a block
pub measured_is : (size : ℕ) (b : List ℕ) → 1 ≤ size → size ≤ block_limit → measured size b ≡ sized size b
measured_is size b least most =
    let a : eqb size 0 ≡ false = ne_eqb _ _ (λ e. omega (arith, e)) in
    let c : eqb size 0xFFFFFFFF ≡ false = ne_eqb _ _ (λ e. omega (arith, e)) in
    let d : eqb size 0xFFFFFFFE ≡ false = ne_eqb _ _ (λ e. omega (arith, e)) in
    let e : leb 0x10000000 size ≡ false = lt-leb _ _ (omega arith) in
    let f : ltb block_limit size ≡ false = le-ltb _ _ most in
    rw (a, c, d, e, f) refl
