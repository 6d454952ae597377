use Rattle.std.proofs.Common.{◌≡◌, inl, inr, refl, subst, rules, [], true, false}
use Rattle.std.specs.Prelude.{IfErr}
use Rattle.session.specs.declared.fault.SessionFault.TheVariants.{Write}
use Rattle.session.specs.declared.login.LoginWait.{LoginWait}
use Rattle.session.specs.Answering.{State}
use Rattle.session.specs.Login.{Awaits, LeavesReads}
use Rattle.session.proofs.Conversed.{held, broken_off}
use Rattle.session.proofs.Left.{is_left}
use Rattle.session.proofs.Read.{if_ok, if_err, kept_out, kept_untold, reads_then}
use Rattle.session.proofs.serving.serve_with.Goals as goal

pub returns-clause-session : goal.returns-clause-session
returns-clause-session g c =
    let came =
    subst (λ (e : LoginWait). Awaits c.args.profile c.args.turns (g.R.Read.remaining c.args.reader.now) (g.R.Read.remaining c.await_login.new.reader)
    c.await_login.new.read_buffer e) c.in-Login.is c.in_ok-nexus.ensures.wait in
    let session : State = record { nexus = c.in-Login.nexus; pending = c.await_login.new.read_buffer; out = [] } in
    if_ok c.greet_and_serve-ended.result _ _
    (λ end talk. inr (held c.args.profile g.S.Service.notes c.args.service.now c.login.new.self c.greet_and_serve-ended.new.service
    c.lose_at_units-is_lost.new.service c.logout.new.self session came.0 c.greet_and_serve-ended.new.self.read_buffer came.1
    g.S.Service.count c.lose_at_units-is_lost.result (g.R.Read.remaining c.args.reader.now)
    (g.R.Read.remaining c.await_login.new.reader) _ _ _ end
    came.2 came.3 came.4 c.login.ensures.library talk c.lose_at_units-is_lost.ensures c.if-not-is_lost.false c.logout.ensures))
    c.greet_and_serve-ended.ensures.talk

pub returns-then-not-is_lost-clause-broken : goal.returns-then-not-is_lost-clause-broken
returns-then-not-is_lost-clause-broken g c =
    let came =
    subst (λ (e : LoginWait). Awaits c.args.profile c.args.turns (g.R.Read.remaining c.args.reader.now) (g.R.Read.remaining c.await_login.new.reader)
    c.await_login.new.read_buffer e) c.in-Login.is c.in_ok-nexus.ensures.wait in
    inr (broken_off c.args.profile g.S.Service.notes c.args.service.now c.login.new.self c.greet_and_serve-ended.new.service
    c.lose_at_units-is_lost.new.service c.logout.new.self c.in-Login.nexus came.0 came.1 g.S.Service.count c.lose_at_units-is_lost.result
    false _ _ _ came.2 came.3 c.login.ensures.library c.greet_and_serve-ended.ensures.calls c.lose_at_units-is_lost.ensures
    c.if-not-is_lost.true c.logout.ensures refl)

pub returns-clause-broken : goal.returns-clause-broken
returns-clause-broken g c =
    let came =
    subst (λ (e : LoginWait). Awaits c.args.profile c.args.turns (g.R.Read.remaining c.args.reader.now) (g.R.Read.remaining c.await_login.new.reader)
    c.await_login.new.read_buffer e) c.in-Login.is c.in_ok-nexus.ensures.wait in
    if_err c.greet_and_serve-ended.result _ _
    (λ fault is. inr (broken_off c.args.profile g.S.Service.notes c.args.service.now c.login.new.self c.greet_and_serve-ended.new.service
    c.lose_at_units-is_lost.new.service c.logout.new.self c.in-Login.nexus came.0 came.1 g.S.Service.count c.lose_at_units-is_lost.result
    true _ _ fault came.2 came.3 c.login.ensures.library c.greet_and_serve-ended.ensures.calls c.lose_at_units-is_lost.ensures
    c.if-not-is_lost.false c.logout.ensures is))
    c.greet_and_serve-ended.ensures.fault

pub returns-in_err-refuse_login-in-Err-clause-broken : goal.returns-in_err-refuse_login-in-Err-clause-broken
returns-in_err-refuse_login-in-Err-clause-broken g c =
    let came =
    subst (λ (e : LoginWait). Awaits c.args.profile c.args.turns (g.R.Read.remaining c.args.reader.now) (g.R.Read.remaining c.await_login.new.reader)
    c.await_login.new.read_buffer e) c.in-Login.is c.in_ok-nexus.ensures.wait in
    let untold : IfErr c.from_residual-in_err-refuse_login-in-Err.result (λ fault. fault ≡ Write) = search rules in
    if_err c.from_residual-in_err-refuse_login-in-Err.result _ _
    (λ fault is. inl (record {
      service = c.login.ensures.library;
      because = kept_untold c.args.profile fault c.args.turns _ _ _ _ _ is came;
      said = λ other. absurd (other is);
    })) untold

pub returns-in-Err-clause-broken : goal.returns-in-Err-clause-broken
returns-in-Err-clause-broken g c =
    let came =
    subst (λ (e : LoginWait). Awaits c.args.profile c.args.turns (g.R.Read.remaining c.args.reader.now) (g.R.Read.remaining c.await_login.new.reader)
    c.await_login.new.read_buffer e) c.in-Login.is c.in_ok-nexus.ensures.wait in
    inl (record {
      service = c.login.ensures.library;
      because = kept_out c.args.profile c.in-Err.fault c.args.turns _ _ _ _ _ c.in-Err.ensures.faults came;
      said = λ other. c.in_ok-refuse_login-in-Err.ensures.said;
    })

pub returns-then-not-is_lost-clause-reads : goal.returns-then-not-is_lost-clause-reads
returns-then-not-is_lost-clause-reads g c =
    let rest =
    subst (λ (e : LoginWait). LeavesReads c.args.profile c.args.turns (g.R.Read.remaining c.args.reader.now) (g.R.Read.remaining c.await_login.new.reader) e)
    c.in-Login.is c.in_ok-nexus.ensures.rest in
    reads_then c.args.profile c.args.turns c.in-Login.turns _ (g.R.Read.remaining c.await_login.new.reader) _ rest.0 rest.1
    c.greet_and_serve-ended.ensures.reads

pub returns-clause-reads : goal.returns-clause-reads
returns-clause-reads g c =
    let rest =
    subst (λ (e : LoginWait). LeavesReads c.args.profile c.args.turns (g.R.Read.remaining c.args.reader.now) (g.R.Read.remaining c.await_login.new.reader) e)
    c.in-Login.is c.in_ok-nexus.ensures.rest in
    reads_then c.args.profile c.args.turns c.in-Login.turns _ (g.R.Read.remaining c.await_login.new.reader) _ rest.0 rest.1
    c.greet_and_serve-ended.ensures.reads

pub returns-then-not-is_lost-clause-service : goal.returns-then-not-is_lost-clause-service
returns-then-not-is_lost-clause-service g c =
    is_left g.S.Service.notes g.S.Service.count _ c.args.service.now c.login.new.self c.greet_and_serve-ended.new.service
    c.lose_at_units-is_lost.new.service c.logout.new.self _ c.lose_at_units-is_lost.result c.login.ensures.library
    c.greet_and_serve-ended.ensures.calls refl c.lose_at_units-is_lost.ensures c.logout.ensures

pub returns-clause-service : goal.returns-clause-service
returns-clause-service g c =
    is_left g.S.Service.notes g.S.Service.count _ c.args.service.now c.login.new.self c.greet_and_serve-ended.new.service
    c.lose_at_units-is_lost.new.service c.logout.new.self _ c.lose_at_units-is_lost.result c.login.ensures.library
    c.greet_and_serve-ended.ensures.calls refl c.lose_at_units-is_lost.ensures c.logout.ensures
