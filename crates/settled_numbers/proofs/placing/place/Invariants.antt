use Rattle.std.proofs.Common.{◌≤◌, ◌<◌, length, get_or}
use Rattle.settled_numbers.specs.declared.number_range.NumberRange.{NumberRange}
use Rattle.settled_numbers.proofs.placing.place.Given as goal

abbrev pub invariant-loop-at : goal.invariant-loop-at
invariant-loop-at l = (l.at ≤ length l.ranges) × ((d : NumberRange) → l.at < length l.ranges → l.first < (get_or l.ranges l.at d).first)

abbrev pub decreases-loop-at : goal.decreases-loop-at
decreases-loop-at l = l.at
