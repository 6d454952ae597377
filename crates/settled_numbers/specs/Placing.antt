-- Where a range goes among others, and with which of its neighbours it becomes one.
use Rattle.std.specs.Prelude.{◌≡◌, ◌⊎◌, ℕ, ◌+◌, ◌≤◌, List, [], ◌∷◌, ◌++◌, true, ◌||◌, take, drop, length}
use Rattle.settled_numbers.specs.declared.number_range.NumberRange.{NumberRange}
use Rattle.settled_numbers.specs.declared.gap.Gap.{Gap}
use Rattle.settled_numbers.specs.Numbers.{is_in, has, size, count, is_joined, end, Meets}

-- the range begins behind the ranges in front of it, or goes on where the last of them ends
abbrev pub LowFits : (front kept : List NumberRange) → NumberRange → (first : ℕ) → Type 0
LowFits front kept r first =
    ((kept ≡ front) × (first ≡ r.first) × (end 0 front ≤ r.first))
    ⊎ ((l : NumberRange) × (front ≡ kept ++ l ∷ []) × (l.first ≡ first) × (l.last + 1 ≡ r.first))

-- it ends before the ranges behind it, or the first of them goes on where it ends
abbrev pub HighFits : (back kept : List NumberRange) → NumberRange → (last : ℕ) → Type 0
HighFits back kept r last =
    ((kept ≡ back) × (last ≡ r.last) × (is_joined (r.last + 2) back ≡ true))
    ⊎ ((h : NumberRange) × (back ≡ h ∷ kept) × (h.last ≡ last) × (h.first ≡ r.last + 1))

-- one range in place of those of a gap
abbrev pub filled : List NumberRange → (from to : ℕ) → NumberRange → List NumberRange
filled rs from to r = take from rs ++ r ∷ drop to rs

-- the ranges with the range filled in have its numbers too, none of which they had
pub record Joins (rs : List NumberRange) (r : NumberRange) (new : List NumberRange) : Type 0 where
  pub joined : is_joined 0 new ≡ true
  pub numbers : (n : ℕ) → has new n ≡ (has rs n || is_in n r)
  pub count : count new ≡ count rs + size r
  pub apart : Meets rs r → ⊥

pub record FitsIn (rs : List NumberRange) (r : NumberRange) (g : Gap) : Type 0 where
  pub order : g.from ≤ g.to
  pub few : g.to ≤ g.from + 2
  pub within : g.to ≤ length rs
  pub joins : Joins rs r (filled rs g.from g.to g.range)
