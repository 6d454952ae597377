-- Ranges of numbers: which numbers they have, how many, and ranges that ascend with a gap between any two.
use Rattle.std.specs.Prelude.{◌≡◌, ℕ, ◌+◌, ◌-◌, List, [], ◌∷◌, Bool, true, false, ◌&&◌, ◌||◌, nat_le, sum_by}
use Rattle.settled_numbers.specs.declared.number_range.NumberRange.{NumberRange}

abbrev pub is_in : ℕ → NumberRange → Bool
is_in n r = nat_le r.first n && nat_le n r.last

abbrev pub has : List NumberRange → ℕ → Bool
has [] n = false
has (r ∷ rs) n = is_in n r || has rs n

abbrev pub size : NumberRange → ℕ
size r = r.last - r.first + 1

abbrev pub count : List NumberRange → ℕ
count rs = sum_by size rs

-- each begins beyond the number that follows the one before it, the first at least at a number
abbrev pub is_joined : ℕ → List NumberRange → Bool
is_joined low [] = true
is_joined low (r ∷ rs) = nat_le low r.first && is_joined (r.last + 2) rs

-- where the next range may begin
abbrev pub end : ℕ → List NumberRange → ℕ
end low [] = low
end low (r ∷ rs) = end (r.last + 2) rs

-- some number of the range is there already
abbrev pub Meets : List NumberRange → NumberRange → Type 0
Meets rs r = (n : ℕ) × (has rs n ≡ true) × (is_in n r ≡ true)
