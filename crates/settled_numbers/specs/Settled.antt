-- Settled numbers, beside a part of a ledger.
use Rattle.std.specs.Prelude.{◌≡◌, ℕ, List, true}
use Rattle.settled_numbers.specs.declared.number_range.NumberRange.{NumberRange}
use Rattle.settled_numbers.specs.Numbers.{count, is_joined}

-- the ranges ascend with a gap between any two, and the part counts their numbers
pub record IsSettled (rs : List NumberRange) (counted cut : ℕ) : Type 0 where
  pub joined : is_joined 0 rs ≡ true
  pub amount : counted ≡ count rs
  pub parts : cut ≡ 1
