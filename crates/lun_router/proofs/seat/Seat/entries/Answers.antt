use Rattle.std.proofs.Common.{rules}
use Rattle.lun_router.proofs.seat.Seat.entries.Goals as goal

pub returns : goal.returns
returns g c = search rules fits 100
