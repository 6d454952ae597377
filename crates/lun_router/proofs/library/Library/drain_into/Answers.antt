use Rattle.std.proofs.Common.{rules}
use Rattle.lun_router.proofs.library.Library.drain_into.Goals as goal

pub returns-clause-there : goal.returns-clause-there
returns-clause-there g c = search rules fits 100
