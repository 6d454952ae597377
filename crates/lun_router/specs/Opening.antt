-- The units of a library, and what they had used when it was opened.
use Rattle.std.specs.Prelude.{◌≡◌, ℕ, List, Option, Some, None, slice_get}
use Rattle.logical_unit.specs.UnitView.{UnitView, last_number}

-- how many seats were made, and how many units there are
pub record LibraryValue : Type 0 where
  pub seats : ℕ
  pub units : ℕ

-- the last record number of a unit is this, where there is one
abbrev pub LastIs : Option UnitView → (since : ℕ) → Type 0
LastIs None since = Unit {0}
LastIs (Some u) since = last_number u ≡ since

-- that number, 0 where there is none
abbrev pub last_at : Option UnitView → ℕ
last_at None = 0
last_at (Some u) = last_number u

-- these are the last record numbers of the units that there are, by logical unit number
abbrev pub IsSince : List UnitView → (since_of : ℕ → ℕ) → Type 0
IsSince us since_of =
    LastIs (slice_get us 0) (since_of 0) × LastIs (slice_get us 1) (since_of 1) × LastIs (slice_get us 2) (since_of 2) × LastIs (slice_get us 3) (since_of 3)
    × LastIs (slice_get us 4) (since_of 4)
