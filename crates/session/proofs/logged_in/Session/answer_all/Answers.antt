use Rattle.std.proofs.Common.{◌≡◌, ◌∙◌, ◌++◌, ap, sym, subst, inl, inr, List, ℕ, append-nil, arith}
use Rattle.std.specs.Prelude.{Ok}
use Rattle.session.specs.Answering.{Answers, state_of}
use Rattle.session.proofs.Answered.{batch, last_batch, appends_more}
use Rattle.session.proofs.Called.{called_on}
use Rattle.session.proofs.logged_in.Session.answer_all.Goals as goal

pub returns-in-NeedsInput-clause-goes_on : goal.returns-in-NeedsInput-clause-goes_on
returns-in-NeedsInput-clause-goes_on g c _ =
    let so = c.batches.invariant.0 in
    let here = c.in_ok-answer_some.ensures.goes_on (inl (ap Ok c.in-NeedsInput.is)) in
    record {
      gone = so.gone;
      appended = so.appended;
      answered =
          batch c.args.profile g.S.Service.notes c.args.service.now c.batches.service c.answer_some.new.service (state_of c.args.self.now)
          (state_of c.batches.self) (state_of c.answer_some.new.self) so.gone so.answered here;
    }

pub returns-in-LoggedOut-clause-leaves : goal.returns-in-LoggedOut-clause-leaves
returns-in-LoggedOut-clause-leaves g c _ =
    let so = c.batches.invariant.0 in
    let here = c.in_ok-answer_some.ensures.leaves (ap Ok c.in-LoggedOut.is) in
    record {
      gone = so.gone;
      appended = so.appended;
      answered =
          last_batch c.args.profile g.S.Service.notes c.args.service.now c.batches.service c.answer_some.new.service (state_of c.args.self.now)
          (state_of c.batches.self) (state_of c.answer_some.new.self) so.gone so.answered here;
    }

pub batches-preserved : goal.batches-preserved
batches-preserved g c =
    let so = c.batches.invariant.0 in
    let here = c.in_ok-answer_some.ensures.goes_on (inr (ap Ok c.in-FlushDue.is)) in
    let wrote = c.in_ok-flush-in-FlushDue.ensures.written in
    let empty = c.flush.ensures.empty in
    let after = state_of c.answer_some.new.self in
    let all =
    batch c.args.profile g.S.Service.notes c.args.service.now c.batches.service c.answer_some.new.service (state_of c.args.self.now) (state_of c.batches.self)
    after so.gone so.answered here in
    let gone = so.gone ++ after.out in
    let none : gone ++ c.flush.new.out.items ≡ gone = ap (λ (x : List ℕ). gone ++ x) empty.0 ∙ append-nil gone in (
      record {
        gone = gone;
        appended = appends_more _ (g.W.Write.contents c.batches.writer) _ so.gone after.out so.appended wrote;
        answered =
            subst (λ (x : List ℕ). Answers c.args.profile g.S.Service.notes c.args.service.now (state_of c.args.self.now) (record after { out = x })
            c.answer_some.new.service) (sym none) all;
      },
      (omega arith, omega arith),
      omega arith,
      called_on g.S.Service.notes c.args.self.now.nexus c.batches.self.nexus c.args.service.now c.batches.service c.answer_some.new.service
          so.answered.nexus c.batches.invariant.3 c.answer_some.ensures.calls,
    )

pub returns-in_err-answer_some-clause-calls : goal.returns-in_err-answer_some-clause-calls
returns-in_err-answer_some-clause-calls g c =
    called_on g.S.Service.notes c.args.self.now.nexus c.batches.self.nexus c.args.service.now c.batches.service c.answer_some.new.service
    c.batches.invariant.0.answered.nexus c.batches.invariant.3 c.answer_some.ensures.calls

pub returns-in-NeedsInput-clause-calls : goal.returns-in-NeedsInput-clause-calls
returns-in-NeedsInput-clause-calls g c =
    called_on g.S.Service.notes c.args.self.now.nexus c.batches.self.nexus c.args.service.now c.batches.service c.answer_some.new.service
    c.batches.invariant.0.answered.nexus c.batches.invariant.3 c.answer_some.ensures.calls

pub returns-in-LoggedOut-clause-calls : goal.returns-in-LoggedOut-clause-calls
returns-in-LoggedOut-clause-calls g c =
    called_on g.S.Service.notes c.args.self.now.nexus c.batches.self.nexus c.args.service.now c.batches.service c.answer_some.new.service
    c.batches.invariant.0.answered.nexus c.batches.invariant.3 c.answer_some.ensures.calls

pub returns-in_err-flush-in-FlushDue-clause-calls : goal.returns-in_err-flush-in-FlushDue-clause-calls
returns-in_err-flush-in-FlushDue-clause-calls g c =
    called_on g.S.Service.notes c.args.self.now.nexus c.batches.self.nexus c.args.service.now c.batches.service c.answer_some.new.service
    c.batches.invariant.0.answered.nexus c.batches.invariant.3 c.answer_some.ensures.calls
