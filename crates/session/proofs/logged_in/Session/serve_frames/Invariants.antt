use Rattle.std.proofs.Common.{◌≡◌, ◌*◌, [], vec_len}
use Rattle.std.specs.Prelude.{vec_capacity}
use Rattle.frames.specs.Limits.{frame_buffer_size}
use Rattle.session.specs.Answering.{ComesByCalls, HasRoom, state_of}
use Rattle.session.specs.Login.{ReadsAtMost}
use Rattle.session.proofs.Conversed.{Speaks}
use Rattle.session.proofs.logged_in.Session.serve_frames.Given as goal

abbrev pub invariant-reads : goal.invariant-reads
invariant-reads g l =
    Speaks l.profile g.S.Service.notes l.fn.service (state_of l.fn.self) (g.R.Read.remaining l.fn.reader) (g.R.Read.remaining l.reader)
    (g.W.Write.contents l.fn.writer) (g.W.Write.contents l.writer) (state_of l.self) l.service
    × (l.self.out.items ≡ [])
    × HasRoom l.profile (vec_len l.self.out) (vec_capacity l.self.out)
    × ReadsAtMost (l.turn * frame_buffer_size l.profile) (g.R.Read.remaining l.fn.reader) (g.R.Read.remaining l.reader)
    × ComesByCalls g.S.Service.notes l.fn.self.nexus l.fn.service l.service
