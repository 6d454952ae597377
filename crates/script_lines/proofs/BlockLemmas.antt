-- Hexadecimal digits block by block.
use Rattle.std.proofs.Common.{◌≡◌, ℕ, zero, suc, ◌+◌, ◌-◌, ◌*◌, ◌/◌, ◌%◌, ◌<◌, ◌≤◌, List, [], ◌∷◌, ◌++◌, length, take, drop, replicate, get_or, map, Option, Some, None, Result, Ok, Err, refl, sym, ap, ◌∙◌, append_assoc, arith}
use Rattle.std.proofs.lemmas.List.{append-nil, drop_more, get_or-map, get_or_append_left, length-append, length-drop, take_at}
use Rattle.std.proofs.lemmas.Simd.{Each1-all, Each1-zip2, Each2-splat, get_or-replicate, get_or-zip2, get_or_narrower, get_or_wider, length-replicate}
use lib.Lanes.{Each1, digits_l, number_l, zip2}
use Rattle.hex.specs.Hex.{decode_of, decode_pairs, digit_or_error, hex_digit_value, ◌>>=◌}
use Rattle.hex.specs.declared.error.FromHexError.{FromHexError}
use Rattle.hex.proofs.HexLemmas.{decode_of-even, decode_of-ok}
use Rattle.script_lines.specs.Words.{behind, hex_bytes}

-- a byte from the values of its digits, and those behind it
abbrev glue : Option ℕ → Option ℕ → Option (List ℕ) → Option (List ℕ)
glue None low rest = None
glue (Some high) None rest = None
glue (Some high) (Some low) None = None
glue (Some high) (Some low) (Some rest) = Some ((high * 16 + low) ∷ rest)

-- what pairs of digits say, wherever they stand
abbrev pairs_of : List ℕ → Option (List ℕ)
pairs_of [] = Some []
pairs_of (x ∷ []) = None
pairs_of (high ∷ low ∷ rest) = glue (hex_digit_value high) (hex_digit_value low) (pairs_of rest)

one_pair : (u v : Option ℕ) (h l i j : ℕ) (r : Result (List ℕ) FromHexError)
    → hex_bytes ((digit_or_error h i u >>= λ a. (digit_or_error l j v >>= λ b. Ok (a * 16 + b))) >>= λ byte. (r >>= λ bytes. Ok (byte ∷ bytes))) ≡ glue u v (hex_bytes r)
one_pair None v h l i j r = refl
one_pair (Some a) None h l i j r = refl
one_pair (Some a) (Some b) h l i j (Err e) = refl
one_pair (Some a) (Some b) h l i j (Ok bytes) = refl

all_pairs : (i : ℕ) (s : List ℕ) → hex_bytes (decode_pairs i s) ≡ pairs_of s
unfolding decode_pairs
all_pairs i [] = refl
all_pairs i (x ∷ []) = refl
all_pairs i (h ∷ l ∷ rest) =
    one_pair (hex_digit_value h) (hex_digit_value l) h l i (i + 1) (decode_pairs (i + 2) rest) ∙ ap (glue (hex_digit_value h) (hex_digit_value l)) (all_pairs (i + 2) rest)

read_is : (s : List ℕ) → length s % 2 ≡ 0 → hex_bytes (decode_of s) ≡ pairs_of s
read_is s even = ap hex_bytes (decode_of-even s even) ∙ all_pairs 0 s

-- some bytes, if there are any, and others behind them
abbrev both : Option (List ℕ) → Option (List ℕ) → Option (List ℕ)
both None rest = None
both (Some front) rest = behind front rest

glue_both : (u v : Option ℕ) (r s : Option (List ℕ)) → glue u v (both r s) ≡ both (glue u v r) s
glue_both None v r s = refl
glue_both (Some a) None r s = refl
glue_both (Some a) (Some b) None s = refl
glue_both (Some a) (Some b) (Some front) None = refl
glue_both (Some a) (Some b) (Some front) (Some rest) = refl

behind_none : (r : Option (List ℕ)) → r ≡ behind [] r
behind_none None = refl
behind_none (Some rest) = refl

behind_two : (front more : List ℕ) (r : Option (List ℕ)) → behind front (behind more r) ≡ behind (front ++ more) r
behind_two front more None = refl
behind_two front more (Some rest) = ap (λ (l : List ℕ). Some l) (sym (append_assoc front more rest))

pairs_of_two : (a b : List ℕ) → length a % 2 ≡ 0 → pairs_of (a ++ b) ≡ both (pairs_of a) (pairs_of b)
pairs_of_two [] b even = behind_none (pairs_of b)
pairs_of_two (x ∷ []) b even = absurd (omega arith)
pairs_of_two (h ∷ l ∷ rest) b even =
    ap (glue (hex_digit_value h) (hex_digit_value l)) (pairs_of_two rest b (omega arith)) ∙ glue_both (hex_digit_value h) (hex_digit_value l) (pairs_of rest) (pairs_of b)

-- two parts, of which the first has whole pairs
two_parts : (s a b : List ℕ) → s ≡ a ++ b → length a % 2 ≡ 0 → length b % 2 ≡ 0 → length s % 2 ≡ 0
    → hex_bytes (decode_of s) ≡ both (hex_bytes (decode_of a)) (hex_bytes (decode_of b))
two_parts s a b cut ea eb es =
    read_is s es ∙ ap pairs_of cut ∙ pairs_of_two a b ea ∙ (λ i. both (sym (read_is a ea) i) (sym (read_is b eb) i))

-- no block is read yet
pub none_read : (r : Option (List ℕ)) → behind [] r ≡ r
none_read r = sym (behind_none r)

-- one block further
pub block_read : (front front' rest block tail bytes : List ℕ) (whole : Option (List ℕ)) → rest ≡ block ++ tail → length block % 2 ≡ 0 → length tail % 2 ≡ 0 → length rest % 2 ≡ 0
    → Some bytes ≡ hex_bytes (decode_of block) → front' ≡ front ++ bytes → behind front (hex_bytes (decode_of rest)) ≡ whole → behind front' (hex_bytes (decode_of tail)) ≡ whole
block_read front front' rest block tail bytes whole cut eb et er read more h =
    ap (λ (l : List ℕ). behind l (hex_bytes (decode_of tail))) more ∙ sym (behind_two front bytes (hex_bytes (decode_of tail)))
    ∙ ap (λ r. behind front (both r (hex_bytes (decode_of tail)))) read ∙ ap (behind front) (sym (two_parts rest block tail cut eb et er)) ∙ h

-- a block with another character
pub block_fails : (front rest block tail : List ℕ) (whole : Option (List ℕ)) → rest ≡ block ++ tail → length block % 2 ≡ 0 → length tail % 2 ≡ 0 → length rest % 2 ≡ 0
    → None ≡ hex_bytes (decode_of block) → behind front (hex_bytes (decode_of rest)) ≡ whole → None ≡ whole
block_fails front rest block tail whole cut eb et er none h =
    ap (λ r. behind front (both r (hex_bytes (decode_of tail)))) none ∙ ap (behind front) (sym (two_parts rest block tail cut eb et er)) ∙ h

-- TWO BLOCKS

-- the first of them is read
pub first_read : (s first front back : List ℕ) → s ≡ front ++ back → length front % 2 ≡ 0 → length back % 2 ≡ 0 → length s % 2 ≡ 0
    → Some first ≡ hex_bytes (decode_of front) → behind first (hex_bytes (decode_of back)) ≡ hex_bytes (decode_of s)
first_read s first front back cut ef eb es read = block_read [] first s front back first (hex_bytes (decode_of s)) cut ef eb es read refl (none_read (hex_bytes (decode_of s)))

no_items : (l : List ℕ) → length l ≡ 0 → l ≡ []
no_items [] e = refl
no_items (x ∷ xs) e = absurd (omega arith)

-- bytes over the first half of a room, and then over the second
pub both_copied : (zeros first second left right : List ℕ) → length zeros ≡ 32 → length first ≡ 32 → left ≡ first → right ≡ second
    → take 32 (left ++ zeros) ++ (right ++ drop 32 (drop 32 (left ++ zeros))) ≡ first ++ second
both_copied zeros first second left right lz lf el er =
    let room = first ++ zeros in
    let none : drop 32 (drop 32 room) ≡ [] = no_items (drop 32 (drop 32 room)) (omega (arith, length-drop 32 (drop 32 room), length-drop 32 room, length-append first zeros)) in
    (λ i. take 32 (el i ++ zeros) ++ (er i ++ drop 32 (drop 32 (el i ++ zeros)))) ∙ (λ i. take_at first zeros 32 lf i ++ (second ++ none i)) ∙ ap (λ (l : List ℕ). first ++ l) (append-nil second)

-- A BLOCK THAT IS FILLED UP

zeros : (n : ℕ) → pairs_of (replicate (2 * n) 48) ≡ Some (replicate n 0)
zeros zero = refl
zeros (suc n) =
    let twice : 2 * suc n ≡ suc (suc (2 * n)) = omega arith in
    rw twice (ap (glue (Some 0) (Some 0)) (zeros n))

rest_zeros : (m n : ℕ) → n ≤ m → drop n (replicate {A = ℕ} m 48) ≡ replicate (m - n) 48
rest_zeros m zero le = ap (λ k. replicate k 48) (omega arith)
rest_zeros zero (suc n) le = absurd (omega arith)
rest_zeros (suc m) (suc n) le = rest_zeros m n (omega arith) ∙ ap (λ k. replicate k 48) (omega arith)

filled_by : (r : Result (List ℕ) FromHexError) (digits block zero_bytes read front front' : List ℕ) → decode_of digits ≡ r
    → Some read ≡ both (hex_bytes r) (Some zero_bytes) → front' ≡ front ++ take (length digits / 2) read → Some front' ≡ behind front (hex_bytes r)
filled_by (Err e) digits block zero_bytes read front front' is h more = absurd cc
filled_by (Ok bytes) digits block zero_bytes read front front' is h more =
    let len = (decode_of-ok digits bytes is).2 in
    let same : read ≡ bytes ++ zero_bytes = some_same h in
    ap (λ (l : List ℕ). Some l) (more ∙ ap (λ (l : List ℕ). front ++ l) (ap (take (length digits / 2)) same ∙ take_at bytes zero_bytes (length digits / 2) (omega (arith, len))))
  where
    some_same : {a b : List ℕ} → Some a ≡ Some b → a ≡ b
    some_same e = cc

no_block_by : (r : Result (List ℕ) FromHexError) (zero_bytes front : List ℕ) → None ≡ both (hex_bytes r) (Some zero_bytes) → None ≡ behind front (hex_bytes r)
no_block_by (Err e) zero_bytes front h = refl
no_block_by (Ok bytes) zero_bytes front h = absurd cc

filled_is : (digits block : List ℕ) → length digits % 2 ≡ 0 → length digits < 64 → block ≡ digits ++ drop (length digits) (replicate {A = ℕ} 64 48)
    → hex_bytes (decode_of block) ≡ both (hex_bytes (decode_of digits)) (Some (replicate ((64 - length digits) / 2) 0))
filled_is digits block even few is =
    let half = (64 - length digits) / 2 in
    let pad : drop (length digits) (replicate {A = ℕ} 64 48) ≡ replicate (2 * half) 48 = rest_zeros 64 (length digits) (omega arith) ∙ ap (λ k. replicate k 48) (omega arith) in
    let long = length-replicate {A = ℕ} (2 * half) 48 in
    let cut : block ≡ digits ++ replicate (2 * half) 48 = is ∙ ap (λ (l : List ℕ). digits ++ l) pad in
    two_parts block digits (replicate (2 * half) 48) cut even (omega (arith, long)) (omega (arith, ap length cut, length-append digits (replicate {A = ℕ} (2 * half) 48), long))
    ∙ ap (both (hex_bytes (decode_of digits))) (read_is (replicate (2 * half) 48) (omega (arith, long)) ∙ zeros half)

-- its first bytes
pub filled : (digits block read front front' : List ℕ) → length digits % 2 ≡ 0 → length digits < 64 → block ≡ digits ++ drop (length digits) (replicate {A = ℕ} 64 48)
    → Some read ≡ hex_bytes (decode_of block) → front' ≡ front ++ take (length digits / 2) read → Some front' ≡ behind front (hex_bytes (decode_of digits))
filled digits block read front front' even few is h more =
    filled_by (decode_of digits) digits block (replicate ((64 - length digits) / 2) 0) read front front' refl (h ∙ filled_is digits block even few is) more

-- or none
pub filled_fails : (digits block front : List ℕ) → length digits % 2 ≡ 0 → length digits < 64 → block ≡ digits ++ drop (length digits) (replicate {A = ℕ} 64 48)
    → None ≡ hex_bytes (decode_of block) → None ≡ behind front (hex_bytes (decode_of digits))
filled_fails digits block front even few is h =
    no_block_by (decode_of digits) (replicate ((64 - length digits) / 2) 0) front (h ∙ filled_is digits block even few is)

-- PAIRS OF LANES

-- every other place, so many of them
abbrev pub evens : ℕ → ℕ → List ℕ
evens i zero = []
evens i (suc n) = i ∷ evens (2 + i) n

length-evens : (i n : ℕ) → length (evens i n) ≡ n
length-evens i zero = refl
length-evens i (suc n) = ap suc (length-evens (2 + i) n)

evens_at : (i n k : ℕ) → k < n → get_or (evens i n) k 0 ≡ i + 2 * k
evens_at i zero k lt = absurd (omega arith)
evens_at i (suc n) zero lt = omega arith
evens_at i (suc n) (suc k) lt = evens_at (2 + i) n k (omega arith) ∙ omega arith

-- how many digits are taken
length_digits : (q n x : ℕ) → length (digits_l q n x) ≡ n
length_digits q zero x = refl
length_digits q (suc n) x = ap suc (length_digits q n (x / q))

-- lanes of bytes as pairs, each times 1001h
abbrev pub pairs_times : List ℕ → List ℕ
pairs_times v = zip2 (λ a b. a * b % 65536) (digits_l 65536 32 (number_l 256 v)) (replicate 32 4097)

pair_at : (v : List ℕ) → length v ≡ 64 → Each1 (λ x. x < 256) v → (k : ℕ) → k < 32
    → get_or (digits_l 65536 32 (number_l 256 v)) k 0 ≡ get_or v (2 * k) 0 + 256 * get_or v (2 * k + 1) 0
pair_at v long fits k lt =
    let high = get_or v (2 * k) 0 in
    let low = get_or v (2 * k + 1) 0 in
    let two : take 2 (drop (2 * k) v) ≡ high ∷ low ∷ [] =
    ap (take 2) (drop_more v (2 * k) 0 (omega arith) ∙ ap (λ (l : List ℕ). high ∷ l) (drop_more v (2 * k + 1) 0 (omega arith))) in
    get_or_wider 256 2 65536 32 v k refl fits lt ∙ ap (number_l 256) two ∙ omega arith

times_at : (v : List ℕ) (k : ℕ) → k < 32 → get_or (pairs_times v) k 0 ≡ get_or (digits_l 65536 32 (number_l 256 v)) k 0 * 4097 % 65536
times_at v k lt =
    let pairs = digits_l 65536 32 (number_l 256 v) in
    get_or-zip2 (λ a b. a * b % 65536) pairs (replicate 32 4097) k 0 0 0 (omega (arith, length_digits 65536 32 (number_l 256 v))) lt
    ∙ ap (λ n. get_or pairs k 0 * n % 65536) (get_or-replicate 32 k 4097 0 lt)

-- the byte of two lanes beside each other
pub byte_of_lanes : (v : List ℕ) → length v ≡ 64 → Each1 (λ x. x < 256) v → ((k : ℕ) → get_or v k 0 < 16) → (k : ℕ) → k < 32
    → (w : List ℕ) → w ≡ digits_l 256 64 (number_l 65536 (pairs_times v)) → get_or (map (λ p. get_or (w ++ w) p 0) (evens 1 32)) k 0 ≡ get_or v (2 * k) 0 * 16 + get_or v (2 * k + 1) 0
byte_of_lanes v long fits small k lt w is =
    let high = get_or v (2 * k) 0 in
    let low = get_or v (2 * k + 1) 0 in
    let words = pairs_times v in
    let width : length w ≡ 64 = ap length is ∙ length_digits 256 64 (number_l 65536 words) in
    let below : Each1 (λ x. x < 65536) words =
    Each1-zip2 (λ a b. a * b % 65536) (λ x. x < 65536) (digits_l 65536 32 (number_l 256 v)) (replicate 32 4097)
    (Each2-splat (λ a b. a * b % 65536 < 65536) (digits_l 65536 32 (number_l 256 v)) 32 4097 (Each1-all (λ a. a * 4097 % 65536 < 65536) (λ a. omega arith) (digits_l 65536 32 (number_l 256 v)))) in
    let word : get_or words k 0 ≡ high * 4097 + low * 256 =
    times_at v k lt ∙ ap (λ n. n * 4097 % 65536) (pair_at v long fits k lt) ∙ omega (arith, small (2 * k), small (2 * k + 1)) in
    let byte : get_or w (2 * k + 1) 0 ≡ get_or words k 0 / 256 % 256 =
    ap (λ (l : List ℕ). get_or l (2 * k + 1) 0) is ∙ get_or_narrower 65536 2 256 64 words k 1 refl below (omega arith) (omega arith) in
    let place : get_or (evens 1 32) k 0 ≡ 2 * k + 1 = evens_at 1 32 k lt ∙ omega arith in
    get_or-map (λ p. get_or (w ++ w) p 0) (evens 1 32) k 0 0 (omega (arith, length-evens 1 32)) ∙ ap (λ p. get_or (w ++ w) p 0) place
    ∙ get_or_append_left w w 0 (2 * k + 1) (omega arith) ∙ byte ∙ ap (λ n. n / 256 % 256) word ∙ omega (arith, small (2 * k), small (2 * k + 1))
