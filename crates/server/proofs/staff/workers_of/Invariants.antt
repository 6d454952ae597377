use Rattle.std.proofs.Common.{◌≡◌, length, map}
use Rattle.server.proofs.staff.workers_of.Given as goal

-- they serve by those that the loop has passed
abbrev pub invariant-services : goal.invariant-services
invariant-services g l = (map (λ w. w.service) l.workers.items ≡ l.yielded) × (l.place ≡ length l.yielded)
