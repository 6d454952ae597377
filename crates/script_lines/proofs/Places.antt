-- The first place of a byte.
use Rattle.std.proofs.Common.{◌≡◌, ℕ, eqb, List, length, Option, Some, None, refl, arith}
use Rattle.std.specs.List.{position, position_or_len}
use Rattle.std.proofs.lemmas.Bool.{false_from_ne_true, lt-ltb, le-ltb}
use Rattle.std.proofs.lemmas.List.Sums.{position_or_len_is}
use Rattle.memchr.specs.Find.{IsFirstByte, is_byte}

-- the first place that a search found is that of the definition
pub first_is_position : (at : ℕ) (bytes : List ℕ) (place : Option ℕ) → IsFirstByte (is_byte at) bytes place → place ≡ position (λ b. eqb b at) bytes
first_is_position at bytes None h =
    let end : position_or_len (λ b. eqb b at) bytes ≡ length bytes =
    position_or_len_is _ bytes (length bytes) 0 (omega arith) (λ k lt. false_from_ne_true _ (h k (omega arith) lt)) (λ lt. absurd (omega arith)) in
    rw (end, le-ltb (length bytes) (length bytes) (omega arith)) refl
first_is_position at bytes (Some k) h =
    let here : position_or_len (λ b. eqb b at) bytes ≡ k =
    position_or_len_is _ bytes k 0 (omega (arith, h.0.high)) (λ i lt. false_from_ne_true _ (h.0.before i (omega arith) lt)) (λ lt. h.1) in
    rw (here, lt-ltb k (length bytes) h.0.high) refl
