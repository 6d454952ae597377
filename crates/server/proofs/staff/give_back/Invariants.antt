use Rattle.std.proofs.Common.{◌≡◌, ◌++◌, None, map}
use Rattle.std.specs.Prelude.{vec_capacity}
use Rattle.server.specs.Faults.{first_among}
use Rattle.server.proofs.staff.give_back.Given as goal

-- the services of those that the loop has passed are there, in the room that there was, and the first of their faults is told
abbrev pub invariant-workers : goal.invariant-workers
invariant-workers g l =
    (l.services.items ≡ l.initial.services.items ++ map (λ w. w.service) l.yielded) × (vec_capacity l.services ≡ vec_capacity l.initial.services) × (l.told ≡ first_among None (map (λ w. w.fault) l.yielded))
