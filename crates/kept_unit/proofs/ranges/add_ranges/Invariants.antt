use Rattle.std.proofs.Common.{◌≡◌, ◌+◌, ◌≤◌, ◌++◌, take, length, vec_len}
use Rattle.std.specs.Prelude.{vec_capacity}
use Rattle.kept_unit.specs.Ranges.{numbers_in_ranges}
use Rattle.kept_unit.proofs.ranges.add_ranges.Given as goal

abbrev pub invariant-loop-range : goal.invariant-loop-range
invariant-loop-range l = record {
  numbers : numbers_in_ranges l.ranges.items ≡ numbers_in_ranges l.fn.ranges.items ++ numbers_in_ranges (take l.range-index l.more);
  room : vec_len l.ranges + length l.more ≤ vec_capacity l.ranges + l.range-index;
}
