use Rattle.library_server.specs.Batches.{HandsOut, left_in}
use Rattle.library_server.proofs.handing_out.hand_out_units.Given as goal

abbrev pub invariant-units : goal.invariant-units
invariant-units g l =
    HandsOut (g.W.Write.contents l.fn.writer) (g.W.Write.contents l.writer) (left_in l.fn.batch) (left_in l.batch)
