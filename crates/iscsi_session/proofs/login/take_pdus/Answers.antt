use Rattle.std.proofs.lemmas.Grind.{common_steps}
use Rattle.std.proofs.Common.{◌≡◌, sym, subst, arith}
use Rattle.iscsi_login.specs.Exchanges.{taken}
use Rattle.iscsi_login.specs.declared.progress.LoginProgress.{LoginProgress}
use Rattle.iscsi_pdu.specs.Views.{initiator_value}
use Rattle.iscsi_pdu.specs.declared.initiator_header.InitiatorHeader.TheVariants as sent
use Rattle.iscsi_pdu.specs.declared.login_request.LoginRequest.{LoginRequest}
use Rattle.iscsi_session.specs.LoggingIn.{Exchanges, UnlessRefused}
use Rattle.iscsi_session.proofs.LoggedIn.{exchanges_more, exchanges_none}
use Rattle.iscsi_session.proofs.Talked.{begins_with}
use Rattle.iscsi_session.proofs.login.take_pdus.Goals as goal

pub pdus-init : goal.pdus-init
pdus-init c = exchanges_none c.args.target.now c.args.exchange.now c.args.read_buffer.now

pub pdus-preserved : goal.pdus-preserved
pdus-preserved c =
    let pdu = c.in-Complete.pdu in
    let size = c.in-Complete.count in
    let target = c.args.target.now in
    let e = c.take_pdu.new.exchange in
    let here = begins_with c.pdus.read_buffer c.pending-pending.result.now (initiator_value pdu) size c.pending-pending.ensures
    c.in-Complete.ensures.parsed c.in-Complete.ensures.within in
    let took =
    subst (λ (p : LoginProgress). UnlessRefused p ((q : LoginRequest) × (pdu.header ≡ sent.LoginRequest q)
    × (e ≡ taken c.pdus.exchange target q pdu.payload.now))) c.in-Answered.is c.in_ok-progress-in-Complete.ensures.taken in
    exchanges_more target c.args.exchange.now c.pdus.exchange _ c.args.read_buffer.now c.pdus.read_buffer c.consume.new.self (initiator_value pdu)
    size c.pdus.invariant here c.consume.ensures took

pub returns-in-Begins-clause-taken : goal.returns-in-Begins-clause-taken
returns-in-Begins-clause-taken c =
    let pdu = c.in-Complete.pdu in
    let size = c.in-Complete.count in
    let target = c.args.target.now in
    let e = c.take_pdu.new.exchange in
    let here = begins_with c.pdus.read_buffer c.pending-pending.result.now (initiator_value pdu) size c.pending-pending.ensures
    c.in-Complete.ensures.parsed c.in-Complete.ensures.within in
    let took =
    subst (λ (p : LoginProgress). UnlessRefused p ((q : LoginRequest) × (pdu.header ≡ sent.LoginRequest q)
    × (e ≡ taken c.pdus.exchange target q pdu.payload.now))) c.in-Begins.is c.in_ok-progress-in-Complete.ensures.taken in
    subst (λ (p : LoginProgress). UnlessRefused p (Exchanges target c.args.exchange.now e c.args.read_buffer.now c.consume.new.self)) (sym c.in-Begins.is)
    (exchanges_more target c.args.exchange.now c.pdus.exchange _ c.args.read_buffer.now c.pdus.read_buffer c.consume.new.self (initiator_value pdu)
    size c.pdus.invariant here c.consume.ensures took)

pub pdus-smaller : goal.pdus-smaller
pdus-smaller c = grind (arith, common_steps)
