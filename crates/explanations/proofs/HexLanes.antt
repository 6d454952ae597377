-- The digits of 32 bytes, looked up in a vector.
use Rattle.std.proofs.Common.{◌≡◌, ℕ, zero, suc, ◌+◌, ◌*◌, ◌/◌, ◌%◌, ◌^◌, ◌<◌, Bool, true, eqb, eqb-true, List, [], ◌∷◌, ◌++◌, map, length, get_or, drop, replicate, bit_and, refl, sym, ap, ◌∙◌, w8, Fits, arith}
use Rattle.std.proofs.lemmas.Bool.{agree_below, agree_below_at}
use Rattle.std.proofs.lemmas.List.{drop_more, ext_get_or, get_or-append-add, get_or-map, get_or_append_left, length-drop, length-map}
use Rattle.std.proofs.lemmas.Nat.{and_le_r, and_mask}
use Rattle.std.proofs.lemmas.Simd.{Each1-all, Each1-get_or, Each1-weaker, Each1-zip2, Each2-splat, below_from_Fits, length-zip2, zip2_splat, swz_l, SwzOk, SwzOk-from_below, length-swz_l, get_or-swz_l_below}
use lib.Lanes.{zip2, Each1}
use Rattle.hex.specs.Hex.{encode_with, encode_lower, lower_digits}
use Rattle.explanations.specs.HexDigits.{first_digit, second_digit}
use Rattle.explanations.specs.declared.hex_text.TheConstants.{DIGITS}

abbrev pub IsBlock : List ℕ → Type 0
IsBlock v = (length v ≡ 32) × Each1 (Fits w8) v

abbrev down : ℕ → ℕ → ℕ
down a b = a / 2 ^ b

pub first_ok : (v : List ℕ) → IsBlock v → SwzOk w8 16 32 0 (zip2 down v (replicate 32 4))
first_ok v fits =
    let small = Each1-weaker (λ a. a < 256) (λ a. a / 16 < 16) (λ a h. omega arith) v (below_from_Fits w8 v fits.1) in
    SwzOk-from_below w8 16 2 32 0 (zip2 down v (replicate 32 4)) refl (omega (arith, length-zip2 down v (replicate 32 4) fits.0))
    (Each1-zip2 down (λ j. j < 16) v (replicate 32 4) (Each2-splat (λ a b. down a b < 16) v 32 4 small))

pub second_ok : (v : List ℕ) → IsBlock v → SwzOk w8 16 32 0 (zip2 bit_and v (replicate 32 15))
second_ok v fits =
    let small = Each1-all (λ a. bit_and a 15 < 16) (λ a. omega (arith, and_le_r a 15)) v in
    SwzOk-from_below w8 16 2 32 0 (zip2 bit_and v (replicate 32 15)) refl (omega (arith, length-zip2 bit_and v (replicate 32 15) fits.0))
    (Each1-zip2 bit_and (λ j. j < 16) v (replicate 32 15) (Each2-splat (λ a b. bit_and a b < 16) v 32 15 small))

-- both halves of the table are the digits, which computes
abbrev is_copy : ℕ → Bool
is_copy i = agree_below (λ j. eqb (get_or DIGITS (16 * ((0 + i) / 16) + j) 0) (get_or lower_digits j 0)) (λ _. true) 16

table_at : (i j : ℕ) → i < 32 → j < 16 → get_or DIGITS (16 * ((0 + i) / 16) + j) 0 ≡ get_or lower_digits j 0
table_at i j li lj =
    let row : is_copy i ≡ true = agree_below_at is_copy (λ _. true) 32 i refl li in
    eqb-true _ _ (agree_below_at (λ j. eqb (get_or DIGITS (16 * ((0 + i) / 16) + j) 0) (get_or lower_digits j 0)) (λ _. true) 16 j row lj)

-- the table read at places g x below 16
looked_up : (g : ℕ → ℕ) (v js : List ℕ) → IsBlock v → js ≡ map g v → ((x : ℕ) → x < 256 → g x < 16) → swz_l w8 16 DIGITS 0 js ≡ map (λ x. get_or lower_digits (g x) 0) v
looked_up g v js fits e small =
    let long : length js ≡ 32 = ap length e ∙ length-map v g ∙ fits.0 in
    ext_get_or 0 _ _ (length-swz_l w8 16 DIGITS 0 js ∙ long ∙ sym (length-map v (λ x. get_or lower_digits (g x) 0) ∙ fits.0)) (λ i h.
    let lt : i < 32 = omega (arith, length-swz_l w8 16 DIGITS 0 js) in
    let within : i < length v = omega (arith, fits.0) in
    let is : get_or js i 0 ≡ g (get_or v i 0) = ap (λ l. get_or l i 0) e ∙ get_or-map g v i 0 0 within in
    let below : get_or js i 0 < 16 = omega (arith, small (get_or v i 0) (Each1-get_or (Fits w8) v i 0 within fits.1).fits) in
    get_or-swz_l_below w8 16 DIGITS 0 js i (omega arith) below ∙ table_at i (get_or js i 0) lt below
    ∙ ap (λ k. get_or lower_digits k 0) is ∙ sym (get_or-map (λ x. get_or lower_digits (g x) 0) v i 0 0 within))

pub first_read : (v : List ℕ) → IsBlock v → swz_l w8 16 DIGITS 0 (zip2 down v (replicate 32 4)) ≡ map first_digit v
first_read v fits = looked_up (λ x. x / 16) v _ fits (zip2_splat down v 32 4 fits.0) (λ x h. omega arith)

masked : (v : List ℕ) → map (λ x. bit_and x 15) v ≡ map (λ x. x % 16) v
masked [] = refl
masked (x ∷ xs) = λ i. and_mask x 4 i ∷ masked xs i

pub second_read : (v : List ℕ) → IsBlock v → swz_l w8 16 DIGITS 0 (zip2 bit_and v (replicate 32 15)) ≡ map second_digit v
second_read v fits = looked_up (λ x. x % 16) v _ fits (zip2_splat bit_and v 32 15 fits.0 ∙ masked v) (λ x h. omega arith)

-- BOTH DIGITS OF EACH BYTE

-- places in two vectors in turn, from i on
abbrev in_turn : ℕ → ℕ → List ℕ
in_turn i zero = []
in_turn i (suc n) = i ∷ (32 + i) ∷ in_turn (1 + i) n

woven_from : (i n : ℕ) (v xs ys : List ℕ) → i + n ≡ 32 → length v ≡ 32 → length xs ≡ 32
    → ((k : ℕ) → k < 32 → get_or xs k 0 ≡ first_digit (get_or v k 0)) → ((k : ℕ) → k < 32 → get_or ys k 0 ≡ second_digit (get_or v k 0))
    → map (λ p. get_or (xs ++ ys) p 0) (in_turn i n) ≡ encode_lower (drop i v)
unfolding encode_with
woven_from i zero v xs ys e long lx fx sy = sym (ap encode_lower (nothing (drop i v) (omega (arith, length-drop i v))))
  where
    nothing : (l : List ℕ) → length l ≡ 0 → l ≡ []
    nothing [] e = refl
    nothing (x ∷ xs) e = absurd (omega arith)
woven_from i (suc n) v xs ys e long lx fx sy =
    let high : get_or (xs ++ ys) i 0 ≡ first_digit (get_or v i 0) = get_or_append_left xs ys 0 i (omega arith) ∙ fx i (omega arith) in
    let low : get_or (xs ++ ys) (32 + i) 0 ≡ second_digit (get_or v i 0) = ap (λ k. get_or (xs ++ ys) (k + i) 0) (sym lx) ∙ get_or-append-add xs ys i 0 ∙ sy i (omega arith) in
    let others : map (λ p. get_or (xs ++ ys) p 0) (in_turn (1 + i) n) ≡ encode_lower (drop (i + 1) v) = woven_from (1 + i) n v xs ys (omega arith) long lx fx sy ∙ ap (λ k. encode_lower (drop k v)) (omega arith) in
    (λ j. high j ∷ low j ∷ others j) ∙ sym (ap encode_lower (drop_more v i 0 (omega arith)))

-- the lanes of both in turn are the text
pub woven : (block v xs ys : List ℕ) → v ≡ block → length v ≡ 32 → xs ≡ map first_digit v → ys ≡ map second_digit v
    → map (λ p. get_or (xs ++ ys) p 0) (in_turn 0 32) ≡ encode_lower block
woven block v xs ys same long ex ey =
    woven_from 0 32 v xs ys refl long (ap length ex ∙ length-map v first_digit ∙ long)
    (λ k lt. ap (λ l. get_or l k 0) ex ∙ get_or-map first_digit v k 0 0 (omega arith)) (λ k lt. ap (λ l. get_or l k 0) ey ∙ get_or-map second_digit v k 0 0 (omega arith))
    ∙ ap encode_lower same
