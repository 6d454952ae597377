use Rattle.std.proofs.Common.{Ok}
use Rattle.script_lines.specs.Events.{joined}
use Rattle.logical_unit.specs.UnitView.{units_of}
use Rattle.replay.proofs.RunLemmas.{Printed}
use Rattle.replay.proofs.replaying.run.Given as goal

abbrev pub invariant-loop-piece : goal.invariant-loop-piece
invariant-loop-piece g l = Printed (units_of l.fn.core) (joined l.yielded) l.profile l.explanations (Ok tt) l.written l.fn.text.items l.text.items (units_of l.core)
