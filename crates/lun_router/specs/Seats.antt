-- What a seat holds, what a call does to it, and what is settled of it.
use Rattle.std.specs.Prelude.{◌≡◌, ◌⊎◌, ℕ, ◌+◌, nat_le, List, [], ◌∷◌, ◌++◌, length, drop, sum_by, Bool, true, false, ◌==◌, if◌then◌else◌, Option, Some, None, slice_get}
use Rattle.std.specs.List.{list_all, prefix_len}
use Rattle.judgement.specs.Replies.{busy}
use Rattle.logical_unit.specs.declared.entry.Entry.{Entry}
use Rattle.settled_numbers.specs.declared.number_range.NumberRange.{NumberRange}
use Rattle.logical_unit.specs.Answers.{DoneValue, entry_of, count_at}
use Rattle.kept_unit.specs.Agreeing.{rises}
use Rattle.kept_unit.specs.Listing.{NotesValue, numbers_in}
use Rattle.kept_unit.specs.Ranges.{numbers_in_ranges}
use Rattle.lun_router.specs.declared.handing_over.UnitNumbers.{UnitNumbers}
use Rattle.lun_router.specs.Shares.{Amounts, Rise}

-- ranges of each unit's record numbers
pub record SettledRanges : Type 0 where
  pub zero : List NumberRange
  pub one : List NumberRange
  pub two : List NumberRange
  pub three : List NumberRange
  pub four : List NumberRange

abbrev pub settled_at : (lun : ℕ) → SettledRanges → List NumberRange
settled_at lun r =
    if lun == 0 then r.zero else if lun == 1 then r.one else if lun == 2 then r.two else if lun == 3 then r.three else if lun == 4 then r.four else []

-- a record number of a unit, 0 where there is none
abbrev pub handed_over_at : (lun : ℕ) → UnitNumbers → ℕ
handed_over_at lun n = if lun == 0 then n.zero else if lun == 1 then n.one else if lun == 2 then n.two else if lun == 3 then n.three else if lun == 4 then n.four else 0

-- a share of a unit's ledger
abbrev pub amount_at : (lun : ℕ) → Amounts → ℕ
amount_at lun a = if lun == 0 then a.zero else if lun == 1 then a.one else if lun == 2 then a.two else if lun == 3 then a.three else if lun == 4 then a.four else 0

-- the last numbers that were handed over, those that were settled since, and an entry for each call behind these
pub record SeatValue : Type 0 where
  pub handed_over : UnitNumbers
  pub settled : SettledRanges
  pub entries : List Entry
  pub amounts : Amounts

-- what a seat has noted of one unit
abbrev pub notes_at : (lun : ℕ) → SeatValue → NotesValue
notes_at lun s = record { handed_over = handed_over_at lun s.handed_over; settled = settled_at lun s.settled; listed = s.entries }

-- a seat that was told nothing
abbrev pub untold : SettledRanges
untold = record { zero = []; one = []; two = []; three = []; four = [] }

abbrev pub no_numbers : UnitNumbers
no_numbers = record { zero = 0; one = 0; two = 0; three = 0; four = 0 }

abbrev pub IsUntold : SeatValue → Type 0
IsUntold s = (s.settled ≡ untold) × (s.entries ≡ []) × (s.handed_over ≡ no_numbers)

-- how many numbers of a unit stand in ranges and entries
abbrev pub told_at : (lun : ℕ) → List NumberRange → List Entry → ℕ
told_at lun rs es = length (numbers_in_ranges rs) + sum_by (λ e. count_at lun e.numbers) es

-- each share counts the numbers of its unit
abbrev pub IsCounted : SettledRanges → List Entry → Amounts → Type 0
IsCounted r es a =
    (a.zero ≡ told_at 0 r.zero es) × (a.one ≡ told_at 1 r.one es) × (a.two ≡ told_at 2 r.two es) × (a.three ≡ told_at 3 r.three es) × (a.four ≡ told_at 4 r.four es)

-- the seat has the entry of the call, and its shares rose by its numbers; or it had no room for one, the call is BUSY, and nothing changed
abbrev pub Notes : SeatValue → DoneValue → SeatValue → Type 0
Notes s d t =
    ((t.entries ≡ s.entries ++ entry_of d ∷ []) × (t.settled ≡ s.settled) × (t.handed_over ≡ s.handed_over) × Rise s.amounts d.numbers t.amounts)
    ⊎ ((t ≡ s) × (d.reply ≡ busy) × (d.numbers ≡ []))

-- whether a number is one of those up to which a unit's records were handed out, by LUN
abbrev pub is_at_most : Option ℕ → ℕ → Bool
is_at_most None n = false
is_at_most (Some last) n = nat_le n last

-- whether each number of an entry was; one without numbers has none that wasn't
abbrev pub is_drained : (drained : List ℕ) → Entry → Bool
is_drained drained e = list_all (λ n. is_at_most (slice_get drained n.0) n.1) e.numbers

-- how many entries the longest beginning has of which each was drained
abbrev pub drained_count : (drained : List ℕ) → List Entry → ℕ
drained_count drained es = prefix_len (is_drained drained) es

-- no number of a unit comes or goes, nor changes its place
abbrev pub SameNumbers : SeatValue → SeatValue → Type 0
SameNumbers s t =
    (numbers_in 0 (notes_at 0 t) ≡ numbers_in 0 (notes_at 0 s)) × (numbers_in 1 (notes_at 1 t) ≡ numbers_in 1 (notes_at 1 s)) × (numbers_in 2 (notes_at 2 t) ≡ numbers_in 2 (notes_at 2 s))
    × (numbers_in 3 (notes_at 3 t) ≡ numbers_in 3 (notes_at 3 s)) × (numbers_in 4 (notes_at 4 t) ≡ numbers_in 4 (notes_at 4 s))

-- the longest beginning that was drained has left the list, and its numbers stand in the ranges
pub record SettlesEntries (drained : List ℕ) (s t : SeatValue) : Type 0 where
  pub listed : t.entries ≡ drop (drained_count drained s.entries) s.entries
  pub numbers : SameNumbers s t
  pub amounts : t.amounts ≡ s.amounts
  pub handed_over : t.handed_over ≡ s.handed_over

-- the last of numbers, or the one below them
abbrev pub end_of : (low : ℕ) → List ℕ → ℕ
end_of low [] = low
end_of low (n ∷ ns) = end_of n ns

-- the first numbers of a unit were handed over: they rise from the last one that was before
pub record HandsOver (lun : ℕ) (n n' : NotesValue) : Type 0 where
  pub gone : List ℕ
  pub numbers : numbers_in lun n ≡ gone ++ numbers_in lun n'
  pub rise : rises n.handed_over gone ≡ true
  pub last : n'.handed_over ≡ end_of n.handed_over gone

-- the longest beginning that was drained has left the list; of each unit the first numbers were handed over, and the others stay in order
pub record Settles (drained : List ℕ) (s t : SeatValue) : Type 0 where
  pub listed : t.entries ≡ drop (drained_count drained s.entries) s.entries
  pub zero : HandsOver 0 (notes_at 0 s) (notes_at 0 t)
  pub one : HandsOver 1 (notes_at 1 s) (notes_at 1 t)
  pub two : HandsOver 2 (notes_at 2 s) (notes_at 2 t)
  pub three : HandsOver 3 (notes_at 3 s) (notes_at 3 t)
  pub four : HandsOver 4 (notes_at 4 s) (notes_at 4 t)
