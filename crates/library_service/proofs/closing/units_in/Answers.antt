use Rattle.std.proofs.Common.{rules}
use Rattle.library_service.proofs.closing.units_in.Goals as goal

pub returns : goal.returns
returns g c = search rules
