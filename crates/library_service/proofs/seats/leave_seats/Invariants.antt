use Rattle.std.proofs.Common.{◌≡◌, ◌++◌, map}
use Rattle.std.specs.Prelude.{vec_capacity}
use Rattle.library_service.proofs.seats.leave_seats.Given as goal

-- the seats of those that the loop has passed are there, in the room that there was
abbrev pub invariant-services : goal.invariant-services
invariant-services g l = (l.seats.items ≡ l.initial.seats.items ++ map (λ s. s.seat) l.yielded) × (vec_capacity l.seats ≡ vec_capacity l.initial.seats)
