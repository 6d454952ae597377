use Rattle.std.proofs.Common.{rules}
use Rattle.output_lines.proofs.left_records.LeftRecords.write_left.Goals as goal

pub returns-then-not-write_left-clause-left : goal.returns-then-not-write_left-clause-left
returns-then-not-write_left-clause-left g c = search rules fits 100

pub returns-then-not-write_left-clause-kept : goal.returns-then-not-write_left-clause-kept
returns-then-not-write_left-clause-kept g c = search rules fits 100
