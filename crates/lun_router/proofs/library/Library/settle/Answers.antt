use Rattle.std.proofs.Common.{subst, sym, refl}
use Rattle.lun_router.specs.Seats.{SeatValue, SettlesEntries}
use Rattle.lun_router.proofs.HandingOver.{counts_rest, settles_over}
use Rattle.lun_router.proofs.library.Library.settle.Goals as goal

pub invariant_of-seat : goal.invariant_of-seat
invariant_of-seat g c = (
  counts_rest 0 _ _ _ _ c.seat.inside.ranges.zero.items c.hand_over.new.ranges.zero.items c.seat.inside.entries.entries c.hand_over.ensures.zero c.seat.invariant.0,
  counts_rest 1 _ _ _ _ c.seat.inside.ranges.one.items c.hand_over.new.ranges.one.items c.seat.inside.entries.entries c.hand_over.ensures.one c.seat.invariant.1,
  counts_rest 2 _ _ _ _ c.seat.inside.ranges.two.items c.hand_over.new.ranges.two.items c.seat.inside.entries.entries c.hand_over.ensures.two c.seat.invariant.2,
  counts_rest 3 _ _ _ _ c.seat.inside.ranges.three.items c.hand_over.new.ranges.three.items c.seat.inside.entries.entries c.hand_over.ensures.three c.seat.invariant.3,
  counts_rest 4 _ _ _ _ c.seat.inside.ranges.four.items c.hand_over.new.ranges.four.items c.seat.inside.entries.entries c.hand_over.ensures.four c.seat.invariant.4,
)

pub returns-clause-ok : goal.returns-clause-ok
returns-clause-ok g c =
    settles_over c.args.drained.now c.args.seat.now _ _
    (subst (λ (m : SeatValue). SettlesEntries c.args.drained.now c.args.seat.now m) (sym c.seat.view_is) c.in_ok-settle_entries.ensures.ok)
    refl c.hand_over.ensures.zero c.hand_over.ensures.one c.hand_over.ensures.two c.hand_over.ensures.three c.hand_over.ensures.four
