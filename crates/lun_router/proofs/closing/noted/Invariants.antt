use Rattle.std.proofs.Common.{◌≡◌, take, map}
use Rattle.kept_unit.specs.SeatNotes.{notes_value}
use Rattle.lun_router.specs.Seats.{notes_at}
use Rattle.lun_router.proofs.closing.noted.Given as goal

abbrev pub invariant-loop-seat : goal.invariant-loop-seat
invariant-loop-seat g l = map notes_value l.all.items ≡ map (notes_at l.lun) (take l.seat-index l.seats)
