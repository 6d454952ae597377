-- What all seats have noted, what they handed over to one unit, and its trail have in common: each number that was used since stands in exactly
-- one entry or range, each entry's record is that of its call, and along one seat the numbers rise. Records that were handed out are compared by
-- number alone, and only their numbers are settled or handed over.
use Rattle.std.specs.Prelude.{◌≡◌, ◌⊎◌, ℕ, ◌+◌, ◌-◌, ◌≤◌, List, [], ◌∷◌, ◌++◌, length, Some, None, Bool, true, ◌&&◌, ◌==◌, nat_lt, MatchBool, All, slice_get, IsPermutation}
use Rattle.std.specs.List.{flat_map}
use Rattle.audit_log.specs.declared.record.Record.{Record}
use Rattle.logical_unit.specs.declared.act_kind.ActKind.TheVariants.{Medium}
use Rattle.logical_unit.specs.declared.entry.Entry.{Entry}
use Rattle.logical_unit.specs.ActKinds.{act_kind_of}
use Rattle.kept_unit.specs.Listing.{NotesValue, numbers_in}
use Rattle.settled_numbers.specs.declared.number_range.NumberRange.{NumberRange}
use Rattle.kept_unit.specs.Ranges.{span, numbers_in_ranges}

-- the numbers of all seats, of each of which `of` gives what it has noted
abbrev pub numbers_of : {S : Type 0} → (of : S → NotesValue) → (lun : ℕ) → List S → List ℕ
numbers_of of lun seats = flat_map (λ s. numbers_in lun (of s)) seats

-- whether each number is above the one before
abbrev pub rises : (low : ℕ) → List ℕ → Bool
rises low [] = true
rises low (n ∷ ns) = nat_lt low n && rises n ns

-- the record of a call at the unit that it was for
abbrev pub IsOwn : Entry → Record → Type 0
IsOwn e r = (r.nexus ≡ e.nexus) × (e.act ≡ Some (act_kind_of r.act)) × (r.status ≡ e.status) × (r.sense ≡ e.sense)

-- the record of a drive, of a move at the changer: a volume that came in or was taken out, without a nexus
abbrev pub IsOfMove : Entry → Record → Type 0
IsOfMove e r = (e.lun ≡ 0) × (r.nexus ≡ None) × (act_kind_of r.act ≡ Medium)

-- the record at a unit is that of the call
abbrev pub Fits : (lun : ℕ) → Entry → Record → Type 0
Fits lun e r = MatchBool (e.lun == lun) (IsOwn e r) (IsOfMove e r)

-- the record was handed out, or it stands in the trail and is that of the call
abbrev pub Stands : (lun base : ℕ) → List Record → Entry → (number : ℕ) → Type 0
Stands lun base records e n = (n ≤ base) ⊎ ((r : Record) × (slice_get records (n - base - 1) ≡ Some r) × Fits lun e r)

unfoldable pub IsTold : (lun base : ℕ) → List Record → Entry → Type 0
IsTold lun base records e = All (λ n. n.0 ≡ lun → Stands lun base records e n.1) e.numbers

-- each record that an entry of a seat tells of is that of its call, the records of the settled numbers were handed out, and the seat's numbers
-- rise, from the last one on that it handed over
pub record SeatFits (lun base : ℕ) (records : List Record) (n : NotesValue) : Type 0 where
  pub told : All (IsTold lun base records) n.listed
  pub handed_out : All (λ r. r.last ≤ base) n.settled
  pub rise : rises n.handed_over (numbers_in lun n) ≡ true

-- the numbers of the seats and those handed over are those from the first to the trail's last, each once; the records of the latter were handed
-- out, and each seat fits
pub record Agrees {S : Type 0} (of : S → NotesValue) (lun first base : ℕ) (records : List Record) (handed_over : List NumberRange) (seats : List S) : Type 0 where
  pub once : IsPermutation (numbers_of of lun seats ++ numbers_in_ranges handed_over) (span first (base + length records - first))
  pub handed_out : All (λ r. r.last ≤ base) handed_over
  pub each : All (λ s. SeatFits lun base records (of s)) seats
