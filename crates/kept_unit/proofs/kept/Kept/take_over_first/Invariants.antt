use Rattle.std.proofs.Common.{◌≡◌, ◌+◌, take, length, Some}
use Rattle.kept_unit.specs.Ranges.{numbers_in_ranges, rise_to}
use Rattle.kept_unit.proofs.kept.Kept.take_over_first.Given as goal

abbrev pub invariant-loop-range : goal.invariant-loop-range
invariant-loop-range g l =
    (l.count ≡ l.range-index)
    × (l.part.parts ≡ 1)
    × (rise_to l.fn.last (take l.range-index l.ranges) ≡ Some l.last)
    × (l.part.amount + length (numbers_in_ranges (take l.range-index l.ranges)) ≡ l.fn.part.amount)
