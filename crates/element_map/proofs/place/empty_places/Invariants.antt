use Rattle.std.proofs.Common.{◌≡◌, replicate, None}
use Rattle.element_map.proofs.place.empty_places.Given as goal

-- as many as the loop has passed
abbrev pub invariant-loop : goal.invariant-loop
invariant-loop g l = l.places.items ≡ replicate l.counter None
