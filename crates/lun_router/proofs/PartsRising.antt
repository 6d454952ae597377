-- The shares of a caller after a call.
use Rattle.std.proofs.Common.{◌≡◌, ℕ, ◌+◌, List, ap, ◌∙◌, arith}
use Rattle.logical_unit.specs.Answers.{count_at}
use Rattle.lun_router.specs.Shares.{Amounts, Rise}

abbrev pub amounts : (zero one two three four : ℕ) → Amounts
amounts a b c d e = record { zero = a; one = b; two = c; three = d; four = e }

-- a share that the call doesn't touch
pub stays : (x n : ℕ) → n ≡ 0 → x ≡ x + n
stays x n none = omega arith

pub rises : (was : Amounts) (a b c d e a' b' c' d' e' : ℕ) (ns : List (ℕ × ℕ)) → amounts a b c d e ≡ was
    → a' ≡ a + count_at 0 ns → b' ≡ b + count_at 1 ns → c' ≡ c + count_at 2 ns → d' ≡ d + count_at 3 ns → e' ≡ e + count_at 4 ns
    → Rise was ns (amounts a' b' c' d' e')
rises was a b c d e a' b' c' d' e' ns is p q r s t = (
  p ∙ ap (λ (m : Amounts). m.zero + count_at 0 ns) is,
  q ∙ ap (λ (m : Amounts). m.one + count_at 1 ns) is,
  r ∙ ap (λ (m : Amounts). m.two + count_at 2 ns) is,
  s ∙ ap (λ (m : Amounts). m.three + count_at 3 ns) is,
  t ∙ ap (λ (m : Amounts). m.four + count_at 4 ns) is,
)
