-- Hexadecimal digits by pairs, and when they are no bytes.
use Rattle.std.proofs.Common.{◌≡◌, ℕ, suc, ◌+◌, ◌*◌, ◌/◌, ◌%◌, ◌<◌, ◌≤◌, ◌⊎◌, inl, inr, true, false, List, [], ◌∷◌, length, get_or, map, take, drop, slice_set, Some, None, Result, Ok, Err, refl, sym, ap, ◌∙◌, arith}
use Rattle.std.specs.List.{list_all}
use Rattle.std.proofs.lemmas.Bool.{and_parts}
use Rattle.std.proofs.lemmas.List.Sums.{list_all-from_AllPass}
use Rattle.std.proofs.Math.ListN.{get_or-map}
use Rattle.hex.specs.Hex.{decode_of, decode_pairs, digit_or_error, hex_digit_value, is_hex_digit, pair_value, value_at}
use Rattle.hex.specs.declared.error.FromHexError.{FromHexError}
use Rattle.hex.proofs.HexLemmas.{decode_of-even, decode_of-odd, decode_of-ok}
use Rattle.hex.specs.declared.error.FromHexError.TheVariants.{InvalidHexCharacter}
use Rattle.hex.proofs.Pairs.{cons_byte, decode_pairs-ok_pair, prepend, decode_step, decode_err, decode_done}
use Rattle.script_lines.specs.Words.{digit_value, hex_bytes, hex_in, within}
use Rattle.script_input.specs.declared.line_fault.LineFault.TheVariants.{BadHex}

-- the value of a digit, from its code
digit_is : (c : ℕ) → is_hex_digit c ≡ true → hex_digit_value c ≡ Some (digit_value c)
digit_is c h = grind (arith)

read : (c i : ℕ) → is_hex_digit c ≡ true → value_at c i ≡ Ok (digit_value c)
read c i h = ap (digit_or_error c i) (digit_is c h)

abbrev pub byte_at : List ℕ → ℕ → ℕ
byte_at s k = digit_value (get_or s (2 * k) 0) * 16 + digit_value (get_or s (2 * k + 1) 0)

later : (a b : ℕ) (rest : List ℕ) (k : ℕ) → byte_at (a ∷ b ∷ rest) (suc k) ≡ byte_at rest k
later a b rest k =
    let high : 2 * suc k ≡ suc (suc (2 * k)) = omega arith in
    let low : 2 * suc k + 1 ≡ suc (suc (2 * k + 1)) = omega arith in
    rw (low, high) refl

decode_from : (i : ℕ) (s bytes : List ℕ) → list_all is_hex_digit s ≡ true → length s % 2 ≡ 0 → 2 * length bytes ≡ length s
    → ((k : ℕ) → k < length bytes → get_or bytes k 0 ≡ byte_at s k) → decode_pairs i s ≡ Ok bytes
unfolding decode_pairs
decode_from i [] [] digits even len at = refl
decode_from i [] (x ∷ xs) digits even len at = absurd (omega arith)
decode_from i (a ∷ []) bytes digits even len at = absurd (omega arith)
decode_from i (a ∷ b ∷ rest) [] digits even len at = absurd (omega arith)
decode_from i (a ∷ b ∷ rest) (x ∷ xs) digits even len at =
    let first = and_parts (is_hex_digit a) (list_all is_hex_digit (b ∷ rest)) digits in
    let second = and_parts (is_hex_digit b) (list_all is_hex_digit rest) first.1 in
    let high = read a i first.0 in
    let low = read b (i + 1) second.0 in
    let pair : pair_value a b i ≡ Ok (digit_value a * 16 + digit_value b) = rw (high, low) refl in
    let here : x ≡ digit_value a * 16 + digit_value b = at 0 (omega arith) in
    let others = decode_from (i + 2) rest xs second.1 (omega arith) (omega arith) (λ k lt. at (suc k) (omega arith) ∙ later a b rest k) in
    decode_pairs-ok_pair i a b _ rest pair ∙ ap (cons_byte (digit_value a * 16 + digit_value b)) others
    ∙ ap (λ (v : ℕ). Ok (v ∷ xs)) (sym here)

-- the bytes of pairs of digits, place by place
pub pairs_decode : (s bytes : List ℕ) → length s % 2 ≡ 0 → list_all is_hex_digit s ≡ true → 2 * length bytes ≡ length s
    → ((k : ℕ) → k < length bytes → get_or bytes k 0 ≡ byte_at s k) → decode_of s ≡ Ok bytes
pairs_decode s bytes even digits len at = decode_of-even s even ∙ decode_from 0 s bytes digits even len at

none_by : (s : List ℕ) → list_all is_hex_digit s ≡ false → (r : Result (List ℕ) FromHexError) → decode_of s ≡ r → hex_bytes r ≡ None
none_by s bad (Err e) h = refl
none_by s bad (Ok bytes) h =
    let good = list_all-from_AllPass is_hex_digit s (decode_of-ok s bytes h).1 in
    cc

-- what has another character doesn't decode
pub no_digits : (s : List ℕ) → list_all is_hex_digit s ≡ false → hex_bytes (decode_of s) ≡ None
no_digits s bad = none_by s bad (decode_of s) refl

-- so it says no bytes
pub other_character : (limit : ℕ) (s : List ℕ) → list_all is_hex_digit s ≡ false → hex_in limit s ≡ Err BadHex
unfolding hex_in
other_character limit s bad = rw (no_digits s bad) refl

-- nor does an odd number of digits
pub odd_digits : (limit : ℕ) (s : List ℕ) → length s % 2 ≡ 1 → hex_in limit s ≡ Err BadHex
unfolding hex_in
odd_digits limit s odd = rw (decode_of-odd s odd) refl

outside_by : (limit : ℕ) (s : List ℕ) → (length s / 2 ≡ 0) ⊎ (limit < length s / 2) → (r : Result (List ℕ) FromHexError) → decode_of s ≡ r
    → within limit (hex_bytes r) ≡ Err BadHex
outside_by limit s out (Err e) h = refl
outside_by limit s out (Ok bytes) h =
    let len = (decode_of-ok s bytes h).2 in
    grind (arith, len)

-- no bytes, or too many
pub no_bytes : (limit : ℕ) (s : List ℕ) → length s / 2 ≡ 0 → hex_in limit s ≡ Err BadHex
unfolding hex_in
no_bytes limit s none = outside_by limit s (inl none) (decode_of s) refl

pub too_many_bytes : (limit : ℕ) (s : List ℕ) → limit < length s / 2 → hex_in limit s ≡ Err BadHex
unfolding hex_in
too_many_bytes limit s many = outside_by limit s (inr many) (decode_of s) refl

-- what is decoded, where there are bytes and not too many
pub bytes_within : (limit : ℕ) (s bytes : List ℕ) → 0 < length s / 2 → length s / 2 ≤ limit → decode_of s ≡ Ok bytes → hex_in limit s ≡ Ok bytes
unfolding hex_in
bytes_within limit s bytes some few h =
    let len = (decode_of-ok s bytes h).2 in
    rw h (grind (arith, len))

pub ruleset refusals = (other_character, odd_digits, no_bytes, too_many_bytes, bytes_within)

-- PAIRS ONE BY ONE

-- the first so many pairs were read
abbrev pub AreRead : (s out : List ℕ) (i : ℕ) → Type 0
AreRead s out i = decode_pairs 0 s ≡ prepend (take i out) (decode_pairs (2 * i) (drop (2 * i) s))

-- one pair more
pub pair_read : (s out : List ℕ) (i high low : ℕ) → 2 * i + 1 < length s → i < length out → Some high ≡ hex_digit_value (get_or s (2 * i) 0)
    → Some low ≡ hex_digit_value (get_or s (2 * i + 1) 0) → AreRead s out i → AreRead s (slice_set out i (high * 16 + low)) (i + 1)
pair_read s out i high low fits room eh el before =
    let pair : pair_value (get_or s (2 * i) 0) (get_or s (2 * i + 1) 0) (2 * i) ≡ Ok (high * 16 + low) = rw (← eh, ← el) refl in
    decode_step s out i (high * 16 + low) fits room pair before

no_bytes_of : (r : Result (List ℕ) FromHexError) (e : FromHexError) → r ≡ Err e → hex_bytes r ≡ None
no_bytes_of r e h = rw h refl

stopped : (s out : List ℕ) (i : ℕ) (e : FromHexError) → length s % 2 ≡ 0 → 2 * i + 1 < length s → pair_value (get_or s (2 * i) 0) (get_or s (2 * i + 1) 0) (2 * i) ≡ Err e
    → AreRead s out i → hex_bytes (decode_of s) ≡ None
stopped s out i e even fits bad before = no_bytes_of (decode_of s) e (decode_of-even s even ∙ decode_err s out i e fits bad before)

-- no digit first, or second
pub stopped_high : (s out : List ℕ) (i : ℕ) → length s % 2 ≡ 0 → 2 * i + 1 < length s → None ≡ hex_digit_value (get_or s (2 * i) 0)
    → AreRead s out i → hex_bytes (decode_of s) ≡ None
stopped_high s out i even fits eh before =
    stopped s out i (InvalidHexCharacter (get_or s (2 * i) 0) (2 * i)) even fits (rw (← eh) refl) before

pub stopped_low : (s out : List ℕ) (i high : ℕ) → length s % 2 ≡ 0 → 2 * i + 1 < length s → Some high ≡ hex_digit_value (get_or s (2 * i) 0)
    → None ≡ hex_digit_value (get_or s (2 * i + 1) 0) → AreRead s out i → hex_bytes (decode_of s) ≡ None
stopped_low s out i high even fits eh el before =
    stopped s out i (InvalidHexCharacter (get_or s (2 * i + 1) 0) (2 * i + 1)) even fits (rw (← eh, ← el) refl) before

-- every pair
pub all_read : (s out : List ℕ) (i : ℕ) → length s % 2 ≡ 0 → length out ≤ i → length s ≤ 2 * i → AreRead s out i → decode_of s ≡ Ok out
all_read s out i even done whole before = decode_of-even s even ∙ decode_done s out i done whole before

-- PAIRS OF VALUES

-- a digit's value has four bits
pub small_value : (s : List ℕ) (k : ℕ) → get_or (map digit_value s) k 0 < 16
small_value s k = rw (get_or-map digit_value s k 0) (omega arith)

-- the bytes of pairs of the values of digits
pub values_decode : (s values bytes : List ℕ) → length s ≡ 2 * length bytes → list_all is_hex_digit s ≡ true → values ≡ map digit_value s
    → ((k : ℕ) → k < length bytes → get_or bytes k 0 ≡ get_or values (2 * k) 0 * 16 + get_or values (2 * k + 1) 0) → decode_of s ≡ Ok bytes
values_decode s values bytes len digits same at =
    let value = λ (j : ℕ). ap (λ l. get_or l j 0) same ∙ get_or-map digit_value s j 0 in
    pairs_decode s bytes (omega arith) digits (omega arith) (λ k lt. at k lt ∙ (λ i. value (2 * k) i * 16 + value (2 * k + 1) i))
