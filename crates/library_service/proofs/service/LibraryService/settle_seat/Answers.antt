use Rattle.std.proofs.Common.{rules}
use Rattle.library_service.proofs.service.LibraryService.settle_seat.Goals as goal

pub returns-clause-ok : goal.returns-clause-ok
returns-clause-ok g c = search rules
