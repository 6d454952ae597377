-- Record numbers as ranges: the numbers that they stand for, and tests of them that read no number twice.
use Rattle.std.specs.Prelude.{ℕ, zero, suc, ◌+◌, ◌-◌, List, [], ◌∷◌, Bool, ◌&&◌, ◌==◌, nat_lt, Option, Some, None, if◌then◌else◌}
use Rattle.std.specs.List.{flat_map}
use Rattle.settled_numbers.specs.declared.number_range.NumberRange.{NumberRange}

-- so many numbers after the first
abbrev pub span : (first count : ℕ) → List ℕ
span first zero = []
span first (suc k) = (first + 1) ∷ span (first + 1) k

-- from the first number to the last
abbrev pub from_to : (first last : ℕ) → List ℕ
from_to first last = first ∷ span first (last - first)

abbrev pub numbers_between : NumberRange → List ℕ
numbers_between r = from_to r.first r.last

-- those of ranges, in order
abbrev pub numbers_in_ranges : List NumberRange → List ℕ
numbers_in_ranges rs = flat_map numbers_between rs

-- the end of ranges of which each begins above the number before it
abbrev pub rise_to : (low : ℕ) → List NumberRange → Option ℕ
rise_to low [] = Some low
rise_to low (r ∷ rs) = if nat_lt low r.first then rise_to r.last rs else None

-- whether each range begins right behind the number before it, and the last one ends at the last
abbrev pub follows : (first last : ℕ) → List NumberRange → Bool
follows first last [] = first == last
follows first last (r ∷ rs) = (r.first == first + 1) && follows r.last last rs
