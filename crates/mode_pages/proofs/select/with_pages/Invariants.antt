use Rattle.std.proofs.Common.{◌≡◌, length}
use Rattle.mode_pages.specs.Select.{with_pages}
use Rattle.mode_pages.proofs.select.with_pages.Given as goal

-- what is left of the bytes has the same end
abbrev pub invariant-loop-rest : goal.invariant-loop-rest
invariant-loop-rest l = with_pages l.bytes l.fn.before ≡ with_pages l.rest l.values

abbrev pub decreases-loop-rest : goal.decreases-loop-rest
decreases-loop-rest l = length l.rest
