use Rattle.std.proofs.Common.{◌≡◌, replicate, None}
use Rattle.element_sources.proofs.sources.no_sources.Given as goal

-- as many as the loop has passed
abbrev pub invariant-loop : goal.invariant-loop
invariant-loop l = l.sources.items ≡ replicate l.counter None
