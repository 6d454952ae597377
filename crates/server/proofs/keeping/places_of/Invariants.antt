use Rattle.std.proofs.Common.{◌≡◌, ◌+◌, vec_len}
use Rattle.server.proofs.keeping.places_of.Given as goal

-- one for each drive that the loop has passed, and two
abbrev pub invariant-drives : goal.invariant-drives
invariant-drives l = vec_len l.places ≡ l.place + 2
