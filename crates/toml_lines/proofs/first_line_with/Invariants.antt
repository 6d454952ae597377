use Rattle.std.proofs.Common.{◌-◌, ◌≤◌, vec_len}
use Rattle.toml_lines.proofs.first_line_with.Given as goal

abbrev pub invariant-halves : goal.invariant-halves
invariant-halves g l = l.high ≤ vec_len l.ends

abbrev pub decreases-halves : goal.decreases-halves
decreases-halves g l = l.high - l.low
