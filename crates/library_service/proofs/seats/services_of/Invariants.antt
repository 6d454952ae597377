use Rattle.std.proofs.Common.{◌≡◌, map}
use Rattle.library_service.specs.LibraryService.{service_at}
use Rattle.library_service.proofs.seats.services_of.Given as goal

-- at the seats that the loop has passed
abbrev pub invariant-seats : goal.invariant-seats
invariant-seats g l = l.services.items ≡ map (service_at l.library.units) l.yielded
