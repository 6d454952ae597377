use Rattle.std.proofs.Common.{take}
use Rattle.logical_unit.specs.UnitView.{units_of}
use Rattle.replay.proofs.RunLemmas.{Printed}
use Rattle.replay.proofs.replaying.run_piece.Given as goal

abbrev pub invariant-loop-event : goal.invariant-loop-event
invariant-loop-event g l = Printed (units_of l.fn.core) (take l.event-index l.events) l.profile l.explanations l.fn.before l.written l.fn.text.items l.text.items (units_of l.core)
