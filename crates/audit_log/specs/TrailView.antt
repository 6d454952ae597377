-- The records of a unit.
use Rattle.std.specs.Prelude.{◌≡◌, ℕ, ◌+◌, ◌<◌, List, [], ◌∷◌, length, slice_index_or}
use Rattle.audit_log.specs.declared.record.Record.{Record}

-- the last number before the first record, the records, and for how many more there is room
pub record TrailView : Type 0 where
  pub base : ℕ
  pub records : List Record
  pub room : ℕ

-- the last number that was used
abbrev pub last_of : TrailView → ℕ
last_of t = t.base + length t.records

-- each record's number is one more than the one before
abbrev pub IsNumbered : ℕ → List Record → Type 0
IsNumbered last [] = Unit {0}
IsNumbered last (r ∷ rs) = (r.number ≡ last + 1) × IsNumbered (last + 1) rs

-- the first record has the number after the base, the record at place 1 the one after that, and so on
abbrev pub CountsUp : Type 0
CountsUp =
    (last : ℕ) (rs : List Record) (place : ℕ) (d : Record) → IsNumbered last rs → place < length rs
    → (slice_index_or rs place d).number ≡ last + place + 1
