use Rattle.std.proofs.Common.{◌≡◌, vec_len}
use Rattle.library_server.proofs.places.open_portals.Given as goal

-- a door for each portal so far
abbrev pub invariant-loop-portal : goal.invariant-loop-portal
invariant-loop-portal g l = vec_len l.doors ≡ l.portal-index
