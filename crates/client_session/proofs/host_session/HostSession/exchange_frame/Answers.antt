use Rattle.std.proofs.Common.{arith, subst, List, ℕ, length, ◌≤◌}
use Rattle.std.specs.Io.KnownBytes.{Appends}
use Rattle.frames.specs.ParsedReplies.{parsed_reply}
use Rattle.frames.specs.Views.{frame_value}
use Rattle.client_session.specs.Waiting.{Answers}
use Rattle.client_session.proofs.Talked.{exchanged}
use Rattle.client_session.proofs.host_session.HostSession.exchange_frame.Goals as goal

pub consume-requires : goal.consume-requires
consume-requires g c = (
  omega arith,
  subst (λ (l : List ℕ). c.in_ok-count.count ≤ length l) c.pending-pending.ensures c.in_ok-count.ensures.within,
)

pub returns-in-Ok-clause-ok : goal.returns-in-Ok-clause-ok
returns-in-Ok-clause-ok g c =
    let came = c.expect_reply.ensures.read in
    let explanations = c.args.self.now.explanations in
    let frame = frame_value c.args.frame.now in
    let cleared = c.clear.new.self.items in
    let line = c.take_reply.new.line.items in
    let count = c.in_ok-count.count in
    exchanged c.args.self.now.profile explanations frame c.args.self.now.read_buffer came.0 c.expect_reply.new.read_buffer c.consume.new.self cleared line count _ _
    came.1 came.2
    (subst (λ (l : List ℕ). Answers c.args.self.now.profile explanations frame (parsed_reply c.args.self.now.profile l) count cleared line) c.pending-pending.ensures c.in_ok-count.ensures.ok)
    (subst (λ (l : List ℕ). count ≤ length l) c.pending-pending.ensures c.in_ok-count.ensures.within) c.consume.ensures c.clear.ensures.items
    c.in_ok-send.ensures.ok
    (subst (λ (l : List ℕ). Appends (g.O.Write.contents c.args.out.now) (g.O.Write.contents c.write_out.new.writer) l) c.as_slice.ensures.value
    c.in-Ok.ensures)
