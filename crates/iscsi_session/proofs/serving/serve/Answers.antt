use Rattle.std.proofs.Common.{List, ℕ, subst}
use Rattle.std.specs.Io.KnownBytes.{Appends}
use Rattle.iscsi_session.specs.declared.login.LoginWait.{LoginWait}
use Rattle.iscsi_session.specs.LoggingIn.{HasReached, LogsIn, WhereBegun}
use Rattle.iscsi_session.proofs.Served.{serves}
use Rattle.iscsi_session.proofs.serving.serve.Goals as goal

pub returns-clause-session : goal.returns-clause-session
returns-clause-session g c =
    let target = c.args.arrival.now.portal.target.now in
    let pending = c.await_login-waited.new.read_buffer in
    let e = c.await_login-waited.new.exchange in
    let left = g.R.Read.remaining c.args.reader.now in
    let left1 = g.R.Read.remaining c.await_login-waited.new.reader in
    let written = g.W.Write.contents c.args.writer.now in
    let written1 = g.W.Write.contents c.await_login-waited.new.writer in
    let login =
    subst (λ (w : LoginWait). WhereBegun w (λ begun. LogsIn target c.new-exchange.result e left left1 pending)) c.in-Begins.is
    c.in_ok-begun.ensures.came in
    let reached = subst (λ (w : LoginWait). WhereBegun w (HasReached e)) c.in-Begins.is c.in_ok-begun.ensures.begins in
    let told =
    subst (λ (w : LoginWait). WhereBegun w (λ begun. (told : List ℕ) × Appends written written1 told)) c.in-Begins.is
    c.in_ok-begun.ensures.written in
    serves g.S.Service.notes g.S.KeepingService.waits g.S.Service.count target c.args.arrival.now.challenge c.args.arrival.now.portal.group c.in-Begins.begun _ e
    c.args.service.now c.serve.new.service pending left left1 _ written written1 _ c.serve.result c.new-exchange.ensures login
    reached told c.serve.ensures.session
