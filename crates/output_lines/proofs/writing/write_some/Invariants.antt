use Rattle.std.proofs.Common.{length}
use Rattle.output_lines.proofs.Written.{Wrote}
use Rattle.output_lines.proofs.writing.write_some.Given as goal

abbrev pub invariant-writes : goal.invariant-writes
invariant-writes g l = Wrote (g.W.Write.contents l.fn.writer) (g.W.Write.contents l.writer) l.bytes l.rest

abbrev pub decreases-writes : goal.decreases-writes
decreases-writes g l = length l.rest
