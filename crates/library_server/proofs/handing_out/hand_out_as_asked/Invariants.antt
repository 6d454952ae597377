use Rattle.library_server.specs.Batches.{HandsOut, left_in}
use Rattle.library_server.proofs.handing_out.hand_out_as_asked.Given as goal

abbrev pub invariant-turns : goal.invariant-turns
invariant-turns g l =
    HandsOut (g.W.Write.contents l.fn.writer) (g.W.Write.contents l.writer) (left_in l.fn.batch) (left_in l.batch)
