-- Worked rows: the numbers of ranges, and what the tests of them say.
use Rattle.std.specs.Prelude.{◌≡◌, true, false, [], ◌∷◌, Some, None}
use Rattle.std.proofs.Common.{lit≤}
use Rattle.settled_numbers.specs.declared.number_range.NumberRange.{NumberRange}
use Rattle.kept_unit.specs.Ranges.{from_to, numbers_between, numbers_in_ranges, rise_to, follows}

abbrev pub three_to_five : NumberRange
three_to_five = record { first = 3; last = 5; ordered = lit≤ tt }

abbrev pub six : NumberRange
six = record { first = 6; last = 6; ordered = lit≤ tt }

abbrev pub six_to_seven : NumberRange
six_to_seven = record { first = 6; last = 7; ordered = lit≤ tt }

abbrev pub seven : NumberRange
seven = record { first = 7; last = 7; ordered = lit≤ tt }

abbrev pub five_to_seven : NumberRange
five_to_seven = record { first = 5; last = 7; ordered = lit≤ tt }

pub record RangeRows : Type 0 where
  pub three : numbers_between three_to_five ≡ 3 ∷ 4 ∷ 5 ∷ []
  pub one : from_to 7 7 ≡ 7 ∷ []
  pub in_order : numbers_in_ranges (seven ∷ three_to_five ∷ []) ≡ 7 ∷ 3 ∷ 4 ∷ 5 ∷ []
  -- from behind 2 up to 7, with a gap, with a number twice, and too few
  pub follow : follows 2 7 (three_to_five ∷ six_to_seven ∷ []) ≡ true
  pub gap : follows 2 7 (three_to_five ∷ seven ∷ []) ≡ false
  pub twice : follows 2 7 (three_to_five ∷ five_to_seven ∷ []) ≡ false
  pub too_few : follows 2 7 (three_to_five ∷ six ∷ []) ≡ false
  -- each above the one before
  pub rising : rise_to 2 (three_to_five ∷ seven ∷ []) ≡ Some 7
  pub falling : rise_to 2 (seven ∷ three_to_five ∷ []) ≡ None
  pub nothing : rise_to 2 [] ≡ Some 2
