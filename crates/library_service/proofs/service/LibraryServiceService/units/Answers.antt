use Rattle.std.proofs.Common.{rules}
use Rattle.library_service.proofs.service.LibraryServiceService.units.Goals as goal

pub returns : goal.returns
returns g c = search rules
