use Rattle.std.proofs.Common.{◌≡◌, drop}
use Rattle.kept_unit.specs.Ranges.{rise_to}
use Rattle.kept_unit.proofs.ranges.rise_to.Given as goal

abbrev pub invariant-loop-range : goal.invariant-loop-range
invariant-loop-range l = rise_to l.fn.low l.ranges ≡ rise_to l.low (drop l.range-index l.ranges)
