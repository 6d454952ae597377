use Rattle.std.proofs.Common.{◌∙◌, arith}
use Rattle.frames.specs.Views.{frame_value}
use Rattle.client_session.proofs.Sessions.{talks_first, talks_next, talks_last, talks_all, breaks_first, breaks_next, breaks_last, on_ok, if_err}
use Rattle.client_session.proofs.host_session.HostSession.exchange_frames.Goals as goal

pub returns-in-Err-clause-err : goal.returns-in-Err-clause-err
returns-in-Err-clause-err g c =
    breaks_first c.args.self.now.profile c.args.self.now.explanations c.args.self.now.nexus c.args.requests.now c.in-Err.fault c.args.self.now.read_buffer _ _
    c.requires.nothing_pending c.in-Err.ensures.err

pub loop-request-init : goal.loop-request-init
loop-request-init g c = (
  (c.in-Ok.ensures.profile, c.in-Ok.ensures.explanations),
  talks_first c.args.self.now.profile c.args.self.now.explanations c.args.self.now.nexus c.args.self.now.read_buffer c.exchange_frame.new.self.read_buffer _ _
      c.requires.nothing_pending c.in-Ok.ensures.ok,
)

pub returns-in-Err-exchange_frame-clause-err : goal.returns-in-Err-exchange_frame-clause-err
returns-in-Err-exchange_frame-clause-err g c =
    breaks_next c.args.self.now.profile c.args.self.now.explanations c.args.self.now.nexus c.args.requests.now c.loop-request.request-index c.request-item.result
    (frame_value c.frame_of-frame.result) c.in-Err-exchange_frame.fault _ _ _ c.loop-request.self.read_buffer
    c.loop-request-test.true c.request-item.is c.frame_of-frame.ensures.frame c.loop-request.invariant.1 (rw (c.loop-request.invariant.0.0) at c.in-Err-exchange_frame.ensures.err)

pub loop-request-preserved : goal.loop-request-preserved
loop-request-preserved g c =
    let same = c.loop-request.invariant.0 in (
      (c.in-Ok-exchange_frame.ensures.profile ∙ same.0, c.in-Ok-exchange_frame.ensures.explanations ∙ same.1),
      talks_next c.args.self.now.profile c.args.self.now.explanations c.args.self.now.nexus c.args.requests.now c.loop-request.request-index c.request-item.result
          (frame_value c.frame_of-frame.result) _ _ _ c.loop-request.self.read_buffer c.exchange_frame-in-loop-request.new.self.read_buffer
          c.loop-request-test.true c.request-item.is c.frame_of-frame.ensures.frame c.loop-request.invariant.1
          (rw (same.0, same.1) at c.in-Ok-exchange_frame.ensures.ok),
    )

pub returns-clause-ok : goal.returns-clause-ok
returns-clause-ok g c =
    let explanations = c.args.self.now.explanations in
    let nexus = c.args.self.now.nexus in
    let requests = c.args.requests.now in
    let rest = c.loop-request.self.read_buffer in
    let same = c.loop-request.invariant.0 in
    let all =
    talks_all c.args.self.now.profile explanations nexus requests c.loop-request.request-index _ _ rest (omega (arith, c.loop-request-test.false))
    c.loop-request.invariant.1 in
    on_ok c.exchange_frame-2.result _ _
    (λ one. talks_last c.args.self.now.profile explanations nexus requests _ _ _ rest c.exchange_frame-2.new.self.read_buffer all one)
    (rw (same.0, same.1) at c.exchange_frame-2.ensures.ok)

pub returns-clause-err : goal.returns-clause-err
returns-clause-err g c =
    let explanations = c.args.self.now.explanations in
    let nexus = c.args.self.now.nexus in
    let requests = c.args.requests.now in
    let rest = c.loop-request.self.read_buffer in
    let all =
    talks_all c.args.self.now.profile explanations nexus requests c.loop-request.request-index _ _ rest (omega (arith, c.loop-request-test.false))
    c.loop-request.invariant.1 in
    if_err c.exchange_frame-2.result _ _ (λ fault stop. breaks_last c.args.self.now.profile explanations nexus requests fault _ _ _ rest all stop)
    (rw (c.loop-request.invariant.0.0) at c.exchange_frame-2.ensures.err)
