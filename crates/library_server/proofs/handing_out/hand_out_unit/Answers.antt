use Rattle.std.proofs.Common.{subst}
use Rattle.output_lines.specs.LeftLines.{GoesOn}
use Rattle.library_server.specs.Batches.{left_in}
use Rattle.library_server.proofs.HandingOut.{hands_left, hands_batch}
use Rattle.library_server.proofs.handing_out.hand_out_unit.Goals as goal

pub returns-in_err-write_left-clause-left : goal.returns-in_err-write_left-clause-left
returns-in_err-write_left-clause-left g c = hands_left _ _ _ _ c.write_left.ensures.left

pub returns-clause-left : goal.returns-clause-left
returns-clause-left g c =
    hands_batch _ _ _ _ (left_in c.write_left.new.self) (left_in c.write_left-2.new.self) c.take.new.self.left.records.items c.write_left.ensures.left c.in_ok-write_left.ensures.all c.take.ensures.drained
    (subst (λ l. GoesOn (g.W.Write.contents c.write_left.new.writer) (g.W.Write.contents c.write_left-2.new.writer) l (left_in c.write_left-2.new.self)) c.take.ensures.left c.write_left-2.ensures.left)
