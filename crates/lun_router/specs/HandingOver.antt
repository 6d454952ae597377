-- What a seat hands over of the ranges of one unit.
use Rattle.std.specs.Prelude.{◌≡◌, ◌≤◌, ℕ, ◌+◌, List, Some, length, take, drop}
use Rattle.settled_numbers.specs.declared.number_range.NumberRange.{NumberRange}
use Rattle.kept_unit.specs.Ranges.{numbers_in_ranges, rise_to}
use Rattle.lun_router.specs.declared.handing_over.UnitRanges.{UnitRanges}
use Rattle.lun_router.specs.Shares.{Amounts}

-- the first of them: they rise from the last number that was handed over, and the share counts them no more
pub record GoesOver (rs : List NumberRange) (low counted : ℕ) (rs' : List NumberRange) (last rest : ℕ) : Type 0 where
  pub count : ℕ
  pub left : rs' ≡ drop count rs
  pub rise : rise_to low (take count rs) ≡ Some last
  pub amount : rest + length (numbers_in_ranges (take count rs)) ≡ counted

-- each share counts no fewer numbers than the ranges of its unit have
pub record AreCounted (r : UnitRanges) (a : Amounts) : Type 0 where
  pub zero : length (numbers_in_ranges r.zero.items) ≤ a.zero
  pub one : length (numbers_in_ranges r.one.items) ≤ a.one
  pub two : length (numbers_in_ranges r.two.items) ≤ a.two
  pub three : length (numbers_in_ranges r.three.items) ≤ a.three
  pub four : length (numbers_in_ranges r.four.items) ≤ a.four
