-- Worked rows: what of a seat is settled. The records were handed out up to number 9 of the changer and number 3 of drive 1.
use Rattle.std.specs.Prelude.{◌≡◌, ℕ, List, [], ◌∷◌, true, false, None}
use Rattle.std.proofs.Common.{lit≤}
use Rattle.scsi_sense.specs.declared.status.Status.TheVariants.{Good}
use Rattle.logical_unit.specs.declared.entry.Entry.{Entry}
use Rattle.settled_numbers.specs.declared.number_range.NumberRange.{NumberRange}
use Rattle.lun_router.specs.Seats.{SeatValue, untold, no_numbers, settled_at, handed_over_at, is_drained, drained_count, SettlesEntries, Settles}

abbrev pub drained : List ℕ
drained = 9 ∷ 3 ∷ 0 ∷ 0 ∷ 0 ∷ []

abbrev pub entry : List (ℕ × ℕ) → Entry
entry ns = record { nexus = None; lun = 1; act = None; status = Good; sense = None; numbers = ns }

-- of drive 1, and one without a record
abbrev pub at_one : ℕ → Entry
at_one n = entry ((1, n) ∷ [])

abbrev pub busy : Entry
busy = entry []

abbrev pub two : NumberRange
two = record { first = 2; last = 2; ordered = lit≤ tt }

abbrev pub three : NumberRange
three = record { first = 3; last = 3; ordered = lit≤ tt }

abbrev pub two_to_three : NumberRange
two_to_three = record { first = 2; last = 3; ordered = lit≤ tt }

abbrev pub two_to_four : NumberRange
two_to_four = record { first = 2; last = 4; ordered = lit≤ tt }

-- a seat with ranges of drive 1, whose numbers it handed over up to one
abbrev pub seat_from : ℕ → List NumberRange → List Entry → SeatValue
seat_from n rs es = record { handed_over = record no_numbers { one = n }; settled = record untold { one = rs }; entries = es; amounts = record { zero = 0; one = 3; two = 0; three = 0; four = 0 } }

-- one that handed nothing over
abbrev pub seat : List NumberRange → List Entry → SeatValue
seat rs es = seat_from 0 rs es

-- with 2 settled, and 3 and 4 listed
abbrev pub before_from : ℕ → SeatValue
before_from n = seat_from n (two ∷ []) (busy ∷ at_one 3 ∷ at_one 4 ∷ [])

abbrev pub before : SeatValue
before = before_from 0

pub record SettlingRows : Type 0 where
  pub own : is_drained drained (at_one 3) ≡ true
  pub later : is_drained drained (at_one 4) ≡ false
  pub unnumbered : is_drained drained busy ≡ true
  pub undrained : is_drained drained (entry ((2, 1) ∷ [])) ≡ false
  pub no_unit : is_drained drained (entry ((5, 1) ∷ [])) ≡ false
  -- a move, whose records are the changer's and the drive's
  pub moved : is_drained drained (entry ((0, 9) ∷ (1, 3) ∷ [])) ≡ true
  pub half : is_drained drained (entry ((0, 9) ∷ (1, 4) ∷ [])) ≡ false
  -- the longest beginning: an entry behind one that stays stays too
  pub count : drained_count drained (at_one 2 ∷ busy ∷ at_one 3 ∷ at_one 4 ∷ busy ∷ []) ≡ 3
  pub nothing : drained_count drained (at_one 4 ∷ at_one 3 ∷ []) ≡ 0
  pub all : drained_count drained (at_one 3 ∷ []) ≡ 1
  pub at_its_unit : settled_at 1 before.settled ≡ two ∷ []
  pub at_another : settled_at 2 before.settled ≡ []
  pub handed_over_there : handed_over_at 1 (seat_from 3 [] []).handed_over ≡ 3
  pub handed_over_elsewhere : handed_over_at 2 (seat_from 3 [] []).handed_over ≡ 0
  -- the number 3 joins the range; not a number fewer, not an entry fewer, none too many
  pub settles : SettlesEntries drained before (seat (two_to_three ∷ []) (at_one 4 ∷ []))
  pub in_ranges : SettlesEntries drained before (seat (two ∷ three ∷ []) (at_one 4 ∷ []))
  pub number_lost : SettlesEntries drained before (seat (three ∷ []) (at_one 4 ∷ [])) → ⊥
  pub too_many : SettlesEntries drained before (seat (two_to_four ∷ []) []) → ⊥
  pub too_few : SettlesEntries drained before (seat (two ∷ []) (at_one 3 ∷ at_one 4 ∷ [])) → ⊥
  -- 2 and 3 are handed over, or the unit took 2 alone, or nothing
  pub over : Settles drained before (seat_from 3 [] (at_one 4 ∷ []))
  pub one_over : Settles drained before (seat_from 2 (three ∷ []) (at_one 4 ∷ []))
  pub none_over : Settles drained before (seat (two_to_three ∷ []) (at_one 4 ∷ []))
  -- they are gone and the seat doesn't know, or they are below one that it handed over
  pub unknown : Settles drained before (seat [] (at_one 4 ∷ [])) → ⊥
  pub below : Settles drained (before_from 5) (seat_from 3 [] (at_one 4 ∷ [])) → ⊥
