-- Worked rows: the numbers of ranges, and where a range goes among others.
use Rattle.std.specs.Prelude.{◌≡◌, true, false, [], ◌∷◌}
use Rattle.std.proofs.Common.{lit≤}
use Rattle.settled_numbers.specs.declared.number_range.NumberRange.{NumberRange}
use Rattle.settled_numbers.specs.Numbers.{has, size, count, is_joined}
use Rattle.settled_numbers.specs.Placing.{filled}

abbrev pub three_to_five : NumberRange
three_to_five = record { first = 3; last = 5; ordered = lit≤ tt }

abbrev pub six : NumberRange
six = record { first = 6; last = 6; ordered = lit≤ tt }

abbrev pub seven : NumberRange
seven = record { first = 7; last = 7; ordered = lit≤ tt }

abbrev pub three_to_seven : NumberRange
three_to_seven = record { first = 3; last = 7; ordered = lit≤ tt }

pub record NumberRows : Type 0 where
  pub first : has (three_to_five ∷ seven ∷ []) 3 ≡ true
  pub last : has (three_to_five ∷ seven ∷ []) 7 ≡ true
  pub below : has (three_to_five ∷ seven ∷ []) 2 ≡ false
  pub between : has (three_to_five ∷ seven ∷ []) 6 ≡ false
  pub one : size seven ≡ 1
  pub all : count (three_to_five ∷ seven ∷ []) ≡ 4
  -- a gap between any two, in rising order
  pub apart : is_joined 0 (three_to_five ∷ seven ∷ []) ≡ true
  pub touching : is_joined 0 (three_to_five ∷ six ∷ []) ≡ false
  pub falling : is_joined 0 (seven ∷ three_to_five ∷ []) ≡ false
  -- 6 closes the gap, and one range is left
  pub closed : filled (three_to_five ∷ seven ∷ []) 0 2 three_to_seven ≡ three_to_seven ∷ []
