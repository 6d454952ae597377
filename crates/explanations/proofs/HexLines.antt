-- Hexadecimal digits, two at a time, and block by block.
use Rattle.std.proofs.Common.{◌≡◌, ℕ, zero, suc, ◌+◌, ◌*◌, ◌/◌, ◌%◌, ◌<◌, ◌≤◌, Bool, true, ◌==◌, ◌&&◌, List, [], ◌∷◌, ◌++◌, length, take, drop, slice_index, bit_and, inl, inr, refl, sym, ap, ◌∙◌, append_assoc, take-add, arith}
use Rattle.std.proofs.lemmas.Bool.{and_parts, cases_lt, eqb-true}
use Rattle.std.proofs.lemmas.List.{take_at, take_all}
use Rattle.std.proofs.lemmas.Simd.{length-chunk, take_more_put_chunk}
use lib.Lanes.{put_chunk}
use Rattle.hex.proofs.HexLemmas.{length-encode_with}
use Rattle.hex.specs.Hex.{encode_with, encode_lower, lower_digits}

-- the value of each digit of a byte, the first in the low half of a word
abbrev pub values : ℕ → ℕ
values byte = byte * 4097 % 65536 / 16

-- and its code: 30h onwards, and 61h onwards for the letters
abbrev pub codes_of : ℕ → ℕ
codes_of byte = values byte + 12336 + bit_and ((values byte + 1542) / 16) 257 * 39

-- the test of one byte, and of the first so many, which compute
abbrev are_digits : ℕ → Bool
are_digits byte = (codes_of byte % 256 == slice_index lower_digits (byte / 16)) && (codes_of byte / 256 == slice_index lower_digits (byte % 16))

abbrev all_are_digits : ℕ → Bool
all_are_digits zero = true
all_are_digits (suc n) = are_digits n && all_are_digits n

tested : (n byte : ℕ) → all_are_digits n ≡ true → byte < n → are_digits byte ≡ true
tested zero byte h lt = absurd (omega arith)
tested (suc n) byte h lt =
    let parts = and_parts (are_digits n) (all_are_digits n) h in
    elim (cases_lt byte n) [
      | inl below ↦ tested n byte parts.1 below
      | inr top ↦
          let here : byte ≡ n = omega arith in
          rw here parts.0
    ]

-- the two digits of a byte, each in its half
pub digits_are : (byte : ℕ) → byte < 256 → (codes_of byte % 256 ≡ slice_index lower_digits (byte / 16)) × (codes_of byte / 256 ≡ slice_index lower_digits (byte % 16))
digits_are byte lt =
    let parts = and_parts _ _ (tested 256 byte refl lt) in
    (eqb-true _ _ parts.0, eqb-true _ _ parts.1)

-- the digits of some bytes and of those behind them
pub encode-append : (t xs ys : List ℕ) → encode_with t (xs ++ ys) ≡ encode_with t xs ++ encode_with t ys
unfolding encode_with
encode-append t [] ys = refl
encode-append t (x ∷ xs) ys =
    ap (λ (rest : List ℕ). slice_index t (x / 16) ∷ slice_index t (x % 16) ∷ rest) (encode-append t xs ys)

-- one block further
pub one_block : (text text' whole rest block behind : List ℕ) → rest ≡ block ++ behind → text' ≡ text ++ encode_lower block
    → text ++ encode_lower rest ≡ whole → text' ++ encode_lower behind ≡ whole
one_block text text' whole rest block behind cut added h =
    rw added (append_assoc text (encode_lower block) (encode_lower behind)
    ∙ ap (λ (xs : List ℕ). text ++ xs) (sym (encode-append lower_digits block behind))
    ∙ ap (λ (xs : List ℕ). text ++ encode_lower xs) (sym cut) ∙ h)

-- the digits of a block that begins with some bytes begin with theirs
pub block_begins : (bytes more block digits : List ℕ) → block ≡ bytes ++ more → digits ≡ encode_lower block → take (2 * length bytes) digits ≡ encode_lower bytes
block_begins bytes more block digits is text =
    ap (take (2 * length bytes)) (text ∙ ap encode_lower is ∙ encode-append lower_digits bytes more)
    ∙ take_at (encode_lower bytes) (encode_lower more) (2 * length bytes) (length-encode_with lower_digits bytes)

-- one block further, where the digits of the bytes before it stand in their room
pub filled_more : (room digits bytes : List ℕ) (at next : ℕ) → digits ≡ encode_lower (take 32 (drop at bytes)) → next ≡ at + 32 → next ≤ length bytes → length room ≡ 2 * length bytes
    → take (2 * at) room ≡ encode_lower (take at bytes) → take (2 * next) (put_chunk (2 * at) room digits) ≡ encode_lower (take next bytes)
filled_more room digits bytes at next is e within long h =
    let block = take 32 (drop at bytes) in
    let size : length digits ≡ 2 * 32 = ap length is ∙ length-encode_with lower_digits block ∙ ap (λ n. 2 * n) (length-chunk at 32 bytes (omega arith)) in
    take_more_put_chunk (2 * at) room digits (2 * next) (omega arith) (omega arith)
    ∙ (λ i. h i ++ is i)
    ∙ sym (encode-append lower_digits (take at bytes) block)
    ∙ ap encode_lower (sym (take-add at 32 bytes) ∙ ap (λ n. take n bytes) (sym e))

-- the room is full where the digits of all bytes stand in it
pub filled : (room bytes : List ℕ) (at : ℕ) → at ≡ length bytes → length room ≡ 2 * length bytes → take (2 * at) room ≡ encode_lower (take at bytes) → room ≡ encode_lower bytes
filled room bytes at all long h =
    sym (take_all (2 * at) room (omega arith)) ∙ h ∙ ap encode_lower (take_all at bytes (omega arith))
