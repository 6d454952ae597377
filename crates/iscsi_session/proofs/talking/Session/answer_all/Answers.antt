use Rattle.std.proofs.Common.{◌≡◌, ◌∙◌, refl, subst, Ok}
use Rattle.iscsi_session.specs.Moments.{moment}
use Rattle.iscsi_session.specs.Worlds.{world}
use Rattle.iscsi_session.specs.Ends.{NeedsMore, PauseFits}
use Rattle.iscsi_session.specs.Talking.{pdus_of}
use Rattle.iscsi_session.specs.declared.fault.IscsiFault.TheVariants as fault
use Rattle.iscsi_session.specs.declared.talking.Pause.{Pause}
use Rattle.iscsi_session.proofs.Conversed.{written_broken, written_last, written_more, written_none}
use Rattle.iscsi_session.proofs.Talked.{branch_paused, branch_written, handed_on}
use Rattle.iscsi_session.proofs.talking.Session.answer_all.Goals as goal

pub batches-init : goal.batches-init
batches-init g c = (refl, c.requires, written_none _ (moment c.args.self.now c.args.service.now) (g.W.Write.contents c.args.writer.now))

pub returns-in_err-flush-clause-talks : goal.returns-in_err-flush-clause-talks
returns-in_err-flush-clause-talks g c =
    let w = world (g.K.SessionKind.works c.args.self.now.kind) (g.K.SessionKind.takes_resets c.args.self.now.kind)
    (g.G.SessionRegister.resets c.args.register.now) (g.G.SessionRegister.ends c.args.register.now) (g.G.SessionRegister.settles c.args.register.now) in
    let a = moment c.args.self.now c.args.service.now in
    let b = moment c.batches.self c.batches.service in
    let v0 = g.W.Write.contents c.args.writer.now in
    let v = g.W.Write.contents c.batches.writer in
    let m = moment c.answer_batch-pause.new.self c.answer_batch-pause.new.service in
    let t = rw c.batches.invariant.0 at c.answer_batch-pause.ensures.talks in
    written_broken w a b m v0 v c.from_residual.result _ c.batches.invariant.2 c.from_residual.ensures.0 (t.0, t.1, t.2)
    (λ taken. branch_written c.from_residual.result taken m.tasks t.1 c.from_residual.ensures.0
    (handed_on c.from_residual.result _ (λ f. f ≡ fault.Write) c.from_residual.ensures.1 c.in_err-flush.ensures.broke))

pub returns-in_err-pause-clause-talks : goal.returns-in_err-pause-clause-talks
returns-in_err-pause-clause-talks g c =
    let w = world (g.K.SessionKind.works c.args.self.now.kind) (g.K.SessionKind.takes_resets c.args.self.now.kind)
    (g.G.SessionRegister.resets c.args.register.now) (g.G.SessionRegister.ends c.args.register.now) (g.G.SessionRegister.settles c.args.register.now) in
    let a = moment c.args.self.now c.args.service.now in
    let b = moment c.batches.self c.batches.service in
    let v0 = g.W.Write.contents c.args.writer.now in
    let v = g.W.Write.contents c.batches.writer in
    let m = moment c.answer_batch-pause.new.self c.answer_batch-pause.new.service in
    let t = rw c.batches.invariant.0 at c.in_err-pause.ensures.talks in
    written_broken w a b m v0 v c.from_residual-in_err-pause.result _ c.batches.invariant.2 c.from_residual-in_err-pause.ensures.0 (t.0, t.1, t.2)
    (λ taken. branch_paused c.from_residual-in_err-pause.result _ taken m.tasks t.1 c.from_residual-in_err-pause.ensures.0
    c.from_residual-in_err-pause.ensures.1 t.4)

pub returns-in-NeedsInput-clause-talks : goal.returns-in-NeedsInput-clause-talks
returns-in-NeedsInput-clause-talks g c =
    let w = world (g.K.SessionKind.works c.args.self.now.kind) (g.K.SessionKind.takes_resets c.args.self.now.kind)
    (g.G.SessionRegister.resets c.args.register.now) (g.G.SessionRegister.ends c.args.register.now) (g.G.SessionRegister.settles c.args.register.now) in
    let a = moment c.args.self.now c.args.service.now in
    let b = moment c.batches.self c.batches.service in
    let v0 = g.W.Write.contents c.args.writer.now in
    let v = g.W.Write.contents c.batches.writer in
    let m = moment c.answer_batch-pause.new.self c.answer_batch-pause.new.service in
    let t = rw c.batches.invariant.0 at c.in_ok-pause.ensures.talks in
    let so = written_more w a b m c.flush.new.out.items v0 v _ c.batches.invariant.2 (t.0, t.1, t.2, t.3) c.in_ok-flush.ensures.written c.flush.ensures.empty in
    let fits = subst (λ (p : Pause). PauseFits (Ok p) (pdus_of t.2.events) m.tasks t.1) c.in-NeedsInput.is t.4 in
    (so.0, _, so.1, (refl, so.2), subst (NeedsMore m.tasks) t.3.0 fits)

pub returns-in-LoggedOut-clause-talks : goal.returns-in-LoggedOut-clause-talks
returns-in-LoggedOut-clause-talks g c =
    let w = world (g.K.SessionKind.works c.args.self.now.kind) (g.K.SessionKind.takes_resets c.args.self.now.kind)
    (g.G.SessionRegister.resets c.args.register.now) (g.G.SessionRegister.ends c.args.register.now) (g.G.SessionRegister.settles c.args.register.now) in
    let a = moment c.args.self.now c.args.service.now in
    let b = moment c.batches.self c.batches.service in
    let v0 = g.W.Write.contents c.args.writer.now in
    let v = g.W.Write.contents c.batches.writer in
    let m = moment c.answer_batch-pause.new.self c.answer_batch-pause.new.service in
    let t = rw c.batches.invariant.0 at c.in_ok-pause.ensures.talks in
    let fits = subst (λ (p : Pause). PauseFits (Ok p) (pdus_of t.2.events) m.tasks t.1) c.in-LoggedOut.is t.4 in
    written_last w a b m c.flush.new.out.items v0 v _ c.batches.invariant.2 (t.0, t.1, t.2, t.3, fits) c.in_ok-flush.ensures.written c.flush.ensures.empty

pub batches-preserved : goal.batches-preserved
batches-preserved g c =
    let w = world (g.K.SessionKind.works c.args.self.now.kind) (g.K.SessionKind.takes_resets c.args.self.now.kind)
    (g.G.SessionRegister.resets c.args.register.now) (g.G.SessionRegister.ends c.args.register.now) (g.G.SessionRegister.settles c.args.register.now) in
    let a = moment c.args.self.now c.args.service.now in
    let b = moment c.batches.self c.batches.service in
    let v0 = g.W.Write.contents c.args.writer.now in
    let v = g.W.Write.contents c.batches.writer in
    let m = moment c.answer_batch-pause.new.self c.answer_batch-pause.new.service in
    let t = rw c.batches.invariant.0 at c.in_ok-pause.ensures.talks in (
      c.answer_batch-pause.ensures.kind ∙ c.batches.invariant.0,
      c.in_ok-pause.ensures.idle,
      written_more w a b m c.flush.new.out.items v0 v _ c.batches.invariant.2 (t.0, t.1, t.2, t.3)
          c.in_ok-flush.ensures.written c.flush.ensures.empty,
    )
