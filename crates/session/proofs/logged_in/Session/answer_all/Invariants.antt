use Rattle.std.proofs.Common.{length, vec_len, ◌≤◌}
use Rattle.std.specs.Prelude.{vec_capacity}
use Rattle.session.specs.Answering.{AnswersOut, ComesByCalls, HasRoom, state_of}
use Rattle.session.proofs.logged_in.Session.answer_all.Given as goal

abbrev pub invariant-batches : goal.invariant-batches
invariant-batches g l =
    AnswersOut l.profile g.S.Service.notes l.fn.service (state_of l.fn.self) (g.W.Write.contents l.fn.writer) (g.W.Write.contents l.writer)
    (state_of l.self) l.service
    × HasRoom l.profile (vec_len l.self.out) (vec_capacity l.self.out)
    × (vec_capacity l.fn.self.out ≤ vec_capacity l.self.out)
    × ComesByCalls g.S.Service.notes l.fn.self.nexus l.fn.service l.service

abbrev pub decreases-batches : goal.decreases-batches
decreases-batches g l = length l.self.read_buffer
