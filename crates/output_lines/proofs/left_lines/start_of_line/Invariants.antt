use Rattle.std.proofs.Common.{◌≡◌, ◌≤◌, drop, length}
use Rattle.output_lines.specs.LeftLines.{line_ends}
use Rattle.output_lines.proofs.left_lines.start_of_line.Given as goal

-- no line ends after the place
abbrev pub invariant-bytes : goal.invariant-bytes
invariant-bytes l = record {
  within : l.start ≤ length l.fn.bytes;
  last : line_ends (drop l.start l.fn.bytes) ≡ 0;
}

abbrev pub decreases-bytes : goal.decreases-bytes
decreases-bytes l = l.start
