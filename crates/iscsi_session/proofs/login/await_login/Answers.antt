use Rattle.std.proofs.Common.{[], ◌++◌, subst}
use Rattle.iscsi_login.specs.declared.progress.LoginProgress.{LoginProgress}
use Rattle.iscsi_session.specs.LoggingIn.{Exchanges, UnlessRefused}
use Rattle.iscsi_session.proofs.LoggedIn.{logs_none, logs_on}
use Rattle.iscsi_session.proofs.Talked.{appends_more, appends_none}
use Rattle.iscsi_session.proofs.login.await_login.Goals as goal

pub reads-init : goal.reads-init
reads-init g c = (
  logs_none c.args.target.now c.args.exchange.now (g.R.Read.remaining c.args.reader.now) c.args.read_buffer.now c.requires,
  ([], appends_none (g.W.Write.contents c.args.writer.now)),
)

pub returns-in-Begins-clause-came : goal.returns-in-Begins-clause-came
returns-in-Begins-clause-came g c =
    let target = c.args.target.now in
    let e = c.take_pdus.new.exchange in
    let pending = c.fill.new.self in
    let rest = c.take_pdus.new.read_buffer in
    let took =
    subst (λ (p : LoginProgress). UnlessRefused p (Exchanges target c.reads.exchange e pending rest)) c.in-Begins.is
    c.in_ok-take_pdus.ensures.taken in
    logs_on target c.args.exchange.now c.reads.exchange _ c.in-Ok.field-0 c.reads.read_buffer pending rest _
    (g.R.Read.remaining c.reads.reader) _ c.reads.invariant.0 c.in-Ok.ensures.ok took

pub reads-preserved : goal.reads-preserved
reads-preserved g c =
    let target = c.args.target.now in
    let e = c.take_pdus.new.exchange in
    let pending = c.fill.new.self in
    let rest = c.take_pdus.new.read_buffer in
    let told = c.take_pdus.new.out.items in
    let took =
    subst (λ (p : LoginProgress). UnlessRefused p (Exchanges target c.reads.exchange e pending rest)) c.in-Answered.is
    c.in_ok-take_pdus.ensures.taken in (
      logs_on target c.args.exchange.now c.reads.exchange _ c.in-Ok.field-0 c.reads.read_buffer pending rest _
          (g.R.Read.remaining c.reads.reader) _ c.reads.invariant.0 c.in-Ok.ensures.ok took,
      (
        c.reads.invariant.1.0 ++ told,
        appends_more _ (g.W.Write.contents c.reads.writer) _ c.reads.invariant.1.0 told c.reads.invariant.1.1
            c.in_ok-flush-in-Answered.ensures.written,
      ),
    )
