use Rattle.std.proofs.Common.{◌≡◌, vec_len}
use Rattle.server.proofs.staff.flags_of.Given as goal

-- as many as the loop has passed
abbrev pub invariant-flags : goal.invariant-flags
invariant-flags l = vec_len l.flags ≡ l._worker
