use Rattle.std.proofs.Common.{◌∙◌, arith}
use Rattle.iscsi_session.proofs.Acted.{adds_nothing, said_more}
use Rattle.iscsi_session.proofs.Released.{due_all, due_more, says_something}
use Rattle.iscsi_session.proofs.releasing.add_due.Goals as goal

pub returns-in_err-add_response-clause-said : goal.returns-in_err-add_response-clause-said
returns-in_err-add_response-clause-said c =
    let any = says_something c.args.connection.now.tasks c.args.connection.now.stat_sn c.args.due.now in
    (any.0, any.1, adds_nothing c.from_residual.result _ _ any.0 c.from_residual.ensures.0)

pub answers-preserved : goal.answers-preserved
answers-preserved c =
    let so = c.answers.invariant in
    let old = c.answers.connection in (
      _,
      due_more c.args.connection.now.tasks old.tasks old.stat_sn c.args.due.now c.answers.answer-index _ so.0 (omega (arith, c.answers-test.true)) so.2 so.1,
      c.in_ok-add_response.ensures.tasks ∙ so.2,
      said_more so.0 _ _ _ _ so.3 c.in_ok-add_response.ensures.said,
    )

pub returns-clause-said : goal.returns-clause-said
returns-clause-said c =
    let so = c.answers.invariant in (
      so.0,
      due_all c.args.connection.now.tasks c.args.due.now c.answers.answer-index so.0 (omega (arith, c.answers-test.false)) so.1,
      so.3,
    )
