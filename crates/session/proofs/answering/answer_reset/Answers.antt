use Rattle.std.proofs.Common.{inr}
use Rattle.session.proofs.Called.{one_called}
use Rattle.session.proofs.answering.answer_reset.Goals as goal

pub returns-clause-calls : goal.returns-clause-calls
returns-clause-calls g c n =
    one_called g.S.Service.notes n c.args.service.now c.reset-done.new.self _
    (inr (c.reset-done.ensures.answer.0, c.reset-done.ensures.answer.2)) c.reset-done.ensures.notes
