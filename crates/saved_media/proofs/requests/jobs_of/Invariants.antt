use Rattle.std.specs.Prelude.{◌≡◌, vec_len}
use Rattle.saved_media.proofs.requests.jobs_of.Given as goal

-- as many as the loop has passed
abbrev pub invariant-loop-number : goal.invariant-loop-number
invariant-loop-number l = vec_len l.jobs ≡ l._number
