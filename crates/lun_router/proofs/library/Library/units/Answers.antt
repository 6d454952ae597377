use Rattle.std.proofs.Common.{rules}
use Rattle.lun_router.proofs.library.Library.units.Goals as goal

pub returns : goal.returns
returns g c = search rules fits 100
