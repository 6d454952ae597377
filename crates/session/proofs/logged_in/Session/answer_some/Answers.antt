use Rattle.std.proofs.lemmas.Grind.{common_steps}
use Rattle.std.proofs.Common.{◌≡◌, ◌∙◌, true, ap, sym, refl, length, arith}
use Rattle.std.specs.Prelude.{Ok}
use Rattle.std.proofs.lemmas.List.{length-drop}
use Rattle.frames.specs.Frames.{Complete, parsed_frame}
use Rattle.frames.specs.Views.{frame_value}
use Rattle.session.specs.Answering.{state_of}
use Rattle.session.proofs.Answered.{one_more, then_logout}
use Rattle.session.proofs.Called.{called_on}
use Rattle.session.proofs.logged_in.Session.answer_some.Goals as goal

pub frames-preserved : goal.frames-preserved
frames-preserved g c =
    let so = c.frames.invariant.0 in
    let whole : parsed_frame c.args.profile true c.frames.self.read_buffer ≡ Complete (frame_value c.in-Complete.frame) c.in-Complete.count =
    sym (ap (parsed_frame c.args.profile true) c.pending.ensures) ∙ sym c.in-Complete.ensures.parsed in
    let said = c.in_ok-next-in-Complete.ensures.goes_on (ap Ok c.in-Frames.is) in (
      one_more c.args.profile g.S.Service.notes c.args.service.now c.frames.service c.answer_frame.new.service (state_of c.args.self.now)
          (state_of c.frames.self) _ (frame_value c.in-Complete.frame) c.in-Complete.count so whole c.consume.ensures refl said,
      omega (arith, c.frames.invariant.1, ap length c.consume.ensures, length-drop c.in-Complete.count c.frames.self.read_buffer),
      (omega arith, omega arith),
      omega arith,
      called_on g.S.Service.notes c.args.self.now.nexus c.frames.self.nexus c.args.service.now c.frames.service c.answer_frame.new.service
          so.nexus c.frames.invariant.4 c.answer_frame.ensures.calls,
    )

pub returns-then-len-batch-clause-goes_on : goal.returns-then-len-batch-clause-goes_on
returns-then-len-batch-clause-goes_on g c _ =
    let whole : parsed_frame c.args.profile true c.frames.self.read_buffer ≡ Complete (frame_value c.in-Complete.frame) c.in-Complete.count =
    sym (ap (parsed_frame c.args.profile true) c.pending.ensures) ∙ sym c.in-Complete.ensures.parsed in
    let said = c.in_ok-next-in-Complete.ensures.goes_on (ap Ok c.in-Frames.is) in
    one_more c.args.profile g.S.Service.notes c.args.service.now c.frames.service c.answer_frame.new.service (state_of c.args.self.now)
    (state_of c.frames.self) _ (frame_value c.in-Complete.frame) c.in-Complete.count c.frames.invariant.0 whole c.consume.ensures refl said

pub returns-in-Nothing-clause-leaves : goal.returns-in-Nothing-clause-leaves
returns-in-Nothing-clause-leaves g c _ =
    let whole : parsed_frame c.args.profile true c.frames.self.read_buffer ≡ Complete (frame_value c.in-Complete.frame) c.in-Complete.count =
    sym (ap (parsed_frame c.args.profile true) c.pending.ensures) ∙ sym c.in-Complete.ensures.parsed in
    let said = c.in_ok-next-in-Complete.ensures.logout (ap Ok c.in-Nothing.is) in
    then_logout c.args.profile g.S.Service.notes c.args.service.now c.frames.service c.answer_frame.new.service (state_of c.args.self.now)
    (state_of c.frames.self) _ (frame_value c.in-Complete.frame) c.in-Complete.count c.frames.invariant.0 whole c.consume.ensures said

pub returns-in-Partial-clause-calls : goal.returns-in-Partial-clause-calls
returns-in-Partial-clause-calls g c = c.frames.invariant.4

pub returns-in-Invalid-clause-calls : goal.returns-in-Invalid-clause-calls
returns-in-Invalid-clause-calls g c = c.frames.invariant.4

pub returns-in_err-next-in-Complete-clause-calls : goal.returns-in_err-next-in-Complete-clause-calls
returns-in_err-next-in-Complete-clause-calls g c =
    called_on g.S.Service.notes c.args.self.now.nexus c.frames.self.nexus c.args.service.now c.frames.service c.answer_frame.new.service
    c.frames.invariant.0.nexus c.frames.invariant.4 c.answer_frame.ensures.calls

pub returns-in-Nothing-clause-calls : goal.returns-in-Nothing-clause-calls
returns-in-Nothing-clause-calls g c =
    called_on g.S.Service.notes c.args.self.now.nexus c.frames.self.nexus c.args.service.now c.frames.service c.answer_frame.new.service
    c.frames.invariant.0.nexus c.frames.invariant.4 c.answer_frame.ensures.calls

pub returns-in-Again-clause-calls : goal.returns-in-Again-clause-calls
returns-in-Again-clause-calls g c =
    called_on g.S.Service.notes c.args.self.now.nexus c.frames.self.nexus c.args.service.now c.frames.service c.answer_frame.new.service
    c.frames.invariant.0.nexus c.frames.invariant.4 c.answer_frame.ensures.calls

pub returns-then-len-batch-clause-calls : goal.returns-then-len-batch-clause-calls
returns-then-len-batch-clause-calls g c =
    called_on g.S.Service.notes c.args.self.now.nexus c.frames.self.nexus c.args.service.now c.frames.service c.answer_frame.new.service
    c.frames.invariant.0.nexus c.frames.invariant.4 c.answer_frame.ensures.calls

pub frames-smaller : goal.frames-smaller
frames-smaller g c = grind (arith, common_steps)

pub returns-then-len-batch-clause-full : goal.returns-then-len-batch-clause-full
returns-then-len-batch-clause-full g c = grind (arith, common_steps)
