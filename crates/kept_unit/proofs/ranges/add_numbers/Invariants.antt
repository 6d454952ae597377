use Rattle.std.proofs.Common.{◌≡◌, ◌++◌, take}
use Rattle.logical_unit.specs.Answers.{at}
use Rattle.kept_unit.specs.Ranges.{numbers_in_ranges}
use Rattle.kept_unit.proofs.ranges.add_numbers.Given as goal

abbrev pub invariant-loop-pair : goal.invariant-loop-pair
invariant-loop-pair l = numbers_in_ranges l.ranges.items ≡ numbers_in_ranges l.fn.ranges.items ++ at l.lun (take l.pair-index l.pairs)
