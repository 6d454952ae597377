use Rattle.std.proofs.Common.{◌≡◌, drop}
use Rattle.kept_unit.specs.Ranges.{follows}
use Rattle.kept_unit.proofs.ranges.follows.Given as goal

abbrev pub invariant-loop-range : goal.invariant-loop-range
invariant-loop-range l = follows l.first l.last l.ranges ≡ follows l.next l.last (drop l.range-index l.ranges)
