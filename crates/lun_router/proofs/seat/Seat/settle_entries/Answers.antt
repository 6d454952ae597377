use Rattle.lun_router.specs.Settling.{ranges_of}
use Rattle.lun_router.proofs.Settled.{counted_after}
use Rattle.lun_router.proofs.seat.Seat.settle_entries.Goals as goal

pub invariant_of-self : goal.invariant_of-self
invariant_of-self g c =
    counted_after c.settle.result c.args.drained.now c.self.inside.entries.entries c.settle.new.entries.entries (ranges_of c.self.inside.ranges) (ranges_of c.settle.new.settled) c.self.inside.parts
    c.settle.ensures.ok c.settle.ensures.err_entries c.settle.ensures.err_settled c.self.invariant
