use Rattle.std.proofs.Common.{rules}
use Rattle.library_service.proofs.service.LibraryServiceService.submit.Goals as goal

pub returns-clause-answer : goal.returns-clause-answer
returns-clause-answer g c = search rules
