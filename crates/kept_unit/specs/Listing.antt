-- What a seat has noted of one unit: the last number that it handed over, numbers that were settled, and entries.
use Rattle.std.specs.Prelude.{ℕ, List, ◌++◌}
use Rattle.std.specs.List.{flat_map}
use Rattle.logical_unit.specs.declared.entry.Entry.{Entry}
use Rattle.settled_numbers.specs.declared.number_range.NumberRange.{NumberRange}
use Rattle.logical_unit.specs.Answers.{at}
use Rattle.kept_unit.specs.Ranges.{numbers_in_ranges}

-- the numbers at one unit that entries have, in order
abbrev pub listed_at : (lun : ℕ) → List Entry → List ℕ
listed_at lun es = at lun (flat_map (λ e. e.numbers) es)

-- the last number of one unit that was handed over, 0 where none was; the ranges of that unit, and the entries of all
pub record NotesValue : Type 0 where
  pub handed_over : ℕ
  pub settled : List NumberRange
  pub listed : List Entry

-- the numbers at that unit that a seat was told, in order: those that were settled are older
abbrev pub numbers_in : (lun : ℕ) → NotesValue → List ℕ
numbers_in lun n = numbers_in_ranges n.settled ++ listed_at lun n.listed
