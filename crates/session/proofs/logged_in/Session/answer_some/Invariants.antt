use Rattle.std.proofs.Common.{length, vec_len, ◌≤◌}
use Rattle.std.specs.Prelude.{vec_capacity}
use Rattle.session.specs.Answering.{Answers, ComesByCalls, HasRoom, state_of}
use Rattle.session.proofs.logged_in.Session.answer_some.Given as goal

abbrev pub invariant-frames : goal.invariant-frames
invariant-frames g l =
    Answers l.profile g.S.Service.notes l.fn.service (state_of l.fn.self) (state_of l.self) l.service
    × (length l.self.read_buffer ≤ length l.fn.self.read_buffer)
    × HasRoom l.profile (vec_len l.self.out) (vec_capacity l.self.out)
    × (vec_capacity l.fn.self.out ≤ vec_capacity l.self.out)
    × ComesByCalls g.S.Service.notes l.fn.self.nexus l.fn.service l.service

abbrev pub decreases-frames : goal.decreases-frames
decreases-frames g l = length l.self.read_buffer
