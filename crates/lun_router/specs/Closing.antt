-- What seats and a unit have in common when the library is closed.
use Rattle.std.specs.Prelude.{◌≡◌, ℕ, ◌+◌, List, sum_by}
use Rattle.logical_unit.specs.UnitView.{UnitView, last_number}
use Rattle.settled_numbers.specs.declared.number_range.NumberRange.{NumberRange}
use Rattle.settled_numbers.specs.Numbers.{count}
use Rattle.kept_unit.specs.Agreeing.{Agrees}
use Rattle.lun_router.specs.Seats.{SeatValue, notes_at, amount_at}

-- some numbers were handed over; with what the seats have noted they agree with the trail, and the unit has used as many numbers since as were
-- handed over and as the seats' shares count
pub record IsAccounted (lun since : ℕ) (u : UnitView) (seats : List SeatValue) : Type 0 where
  pub handed_over : List NumberRange
  pub agrees : Agrees (notes_at lun) lun since u.base.last u.records handed_over seats
  pub sum : last_number u ≡ since + (count handed_over + sum_by (λ s. amount_at lun s.amounts) seats)
