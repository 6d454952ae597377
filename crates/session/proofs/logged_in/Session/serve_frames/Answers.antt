use Rattle.std.proofs.lemmas.Grind.{common_steps}
use Rattle.std.proofs.Common.{◌≡◌, ◌*◌, ap, refl, ◌∙◌, arith, true, false}
use Rattle.std.specs.Prelude.{Ok}
use Rattle.frames.specs.Limits.{frame_buffer_size}
use Rattle.session.specs.Answering.{state_of}
use Rattle.session.specs.Login.{end_of}
use Rattle.session.proofs.Conversed.{speaks_first, speaks_on, leaves_first, leaves_on, ends}
use Rattle.session.proofs.Called.{called_on}
use Rattle.session.proofs.Read.{reads_none, reads_more, reads_on, room_for_frame}
use Rattle.session.proofs.logged_in.Session.serve_frames.Goals as goal

pub reads-init : goal.reads-init
reads-init g c =
    let on : c.in_ok-answer_and_write.field-0 ≡ true = c.if-not-branch.false in
    let wrote = c.in_ok-answer_and_write.ensures.goes_on (ap Ok on) in (
      speaks_first c.args.profile g.S.Service.notes c.args.service.now c.answer_and_write.new.service (state_of c.args.self.now)
          (state_of c.answer_and_write.new.self) _ _ _ wrote,
      c.in_ok-answer_and_write.ensures.written,
      c.in_ok-answer_and_write.ensures.room,
      reads_none (0 * frame_buffer_size c.args.profile) (g.R.Read.remaining c.args.reader.now),
      c.answer_and_write.ensures.calls,
    )

pub reads-preserved : goal.reads-preserved
reads-preserved g c =
    let so = c.reads.invariant in
    let on : c.in_ok-answer_and_write-2.field-0 ≡ true = c.if-not-branch-2.false in
    let wrote = c.in_ok-answer_and_write-2.ensures.goes_on (ap Ok on) in (
      speaks_on c.args.profile g.S.Service.notes c.args.service.now c.reads.service _ (state_of c.args.self.now) (state_of c.reads.self) _ _
          c.in-Ok.field-0
          _ _ _ _ _ _ so.0 c.in-Ok.ensures.ok refl so.1 wrote,
      c.in_ok-answer_and_write-2.ensures.written,
      c.in_ok-answer_and_write-2.ensures.room,
      reads_more c.args.profile c.reads.turn c.in-Ok.field-0 _ _ _ _ _ so.3 c.in-Ok.ensures.ok (omega (arith, c.in-Ok.ensures.most, c.requires.buffer)),
      called_on g.S.Service.notes c.args.self.now.nexus c.reads.self.nexus c.args.service.now c.reads.service
          c.answer_and_write-in-reads.new.service so.0.answered.nexus so.4 c.answer_and_write-in-reads.ensures.calls,
    )

pub returns-then-not-branch-clause-talk : goal.returns-then-not-branch-clause-talk
returns-then-not-branch-clause-talk g c =
    let off : c.in_ok-answer_and_write.field-0 ≡ false = c.if-not-branch.true in
    let wrote = c.in_ok-answer_and_write.ensures.leaves (ap Ok off) in
    leaves_first c.args.profile g.S.Service.notes c.args.service.now c.answer_and_write.new.service (state_of c.args.self.now)
    (state_of c.answer_and_write.new.self) _ _ _ wrote

pub returns-then-not-branch-2-clause-talk : goal.returns-then-not-branch-2-clause-talk
returns-then-not-branch-2-clause-talk g c =
    let so = c.reads.invariant in
    let off : c.in_ok-answer_and_write-2.field-0 ≡ false = c.if-not-branch-2.true in
    let wrote = c.in_ok-answer_and_write-2.ensures.leaves (ap Ok off) in
    leaves_on c.args.profile g.S.Service.notes c.args.service.now c.reads.service _ (state_of c.args.self.now) (state_of c.reads.self) _ _ c.in-Ok.field-0
    _ _ _ _ _ _ so.0 c.in-Ok.ensures.ok refl so.1 wrote

-- the read that gives nothing finds the end
pub returns-in-Ok-eq0-clause-talk : goal.returns-in-Ok-eq0-clause-talk
returns-in-Ok-eq0-clause-talk g c =
    let so = c.reads.invariant in
    let how = c.end_of.ensures ∙ ap end_of c.pending.ensures in
    rw how (ends c.args.profile g.S.Service.notes c.args.service.now c.reads.service (state_of c.args.self.now) (state_of c.reads.self) c.fill.new.self
    c.in-Ok-eq0.field-0 _ _ _ _ _ so.0 c.in-Ok-eq0.ensures.ok c.in-Ok-eq0.field-0-test
    (c.in-Ok-eq0.ensures.end c.in-Ok-eq0.field-0-test (omega (arith, so.0.short, room_for_frame c.args.profile, c.requires.buffer))))

pub returns-then-not-branch-2-clause-reads : goal.returns-then-not-branch-2-clause-reads
returns-then-not-branch-2-clause-reads g c =
    reads_on c.args.profile c.reads.turn c.args.turns c.in-Ok.field-0 _ _ _ _ _ (omega arith) c.reads.invariant.3 c.in-Ok.ensures.ok (omega (arith, c.in-Ok.ensures.most, c.requires.buffer))

pub returns-in_err-answer_and_write-2-clause-reads : goal.returns-in_err-answer_and_write-2-clause-reads
returns-in_err-answer_and_write-2-clause-reads g c =
    reads_on c.args.profile c.reads.turn c.args.turns c.in-Ok.field-0 _ _ _ _ _ (omega arith) c.reads.invariant.3 c.in-Ok.ensures.ok (omega (arith, c.in-Ok.ensures.most, c.requires.buffer))

pub returns-in-Ok-eq0-clause-calls : goal.returns-in-Ok-eq0-clause-calls
returns-in-Ok-eq0-clause-calls g c = c.reads.invariant.4

pub returns-in-Err-clause-calls : goal.returns-in-Err-clause-calls
returns-in-Err-clause-calls g c = c.reads.invariant.4

pub returns-clause-calls : goal.returns-clause-calls
returns-clause-calls g c = c.reads.invariant.4

pub returns-in_err-answer_and_write-2-clause-calls : goal.returns-in_err-answer_and_write-2-clause-calls
returns-in_err-answer_and_write-2-clause-calls g c =
    called_on g.S.Service.notes c.args.self.now.nexus c.reads.self.nexus c.args.service.now c.reads.service
    c.answer_and_write-in-reads.new.service c.reads.invariant.0.answered.nexus c.reads.invariant.4 c.answer_and_write-in-reads.ensures.calls

pub returns-then-not-branch-2-clause-calls : goal.returns-then-not-branch-2-clause-calls
returns-then-not-branch-2-clause-calls g c =
    called_on g.S.Service.notes c.args.self.now.nexus c.reads.self.nexus c.args.service.now c.reads.service
    c.answer_and_write-in-reads.new.service c.reads.invariant.0.answered.nexus c.reads.invariant.4 c.answer_and_write-in-reads.ensures.calls

pub returns-in-Ok-eq0-clause-reads : goal.returns-in-Ok-eq0-clause-reads
returns-in-Ok-eq0-clause-reads g c = grind (arith, common_steps)
