use Rattle.std.proofs.Common.{append_assoc}
use Rattle.explanations.proofs.senses.write_marks.Goals as goal

pub returns : goal.returns
returns c = rw (c.in_ok-write_mark-3.ensures, c.in_ok-write_mark-2.ensures, c.in_ok-write_mark.ensures) (simp append_assoc)
