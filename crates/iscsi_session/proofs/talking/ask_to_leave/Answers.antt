use Rattle.std.proofs.Common.{◌∙◌, ◌++◌, ap, inr, refl}
use Rattle.iscsi_answers.specs.Single.{leave_request}
use Rattle.iscsi_answers.specs.Written.{bytes_of}
use Rattle.iscsi_session.proofs.Acted.{said_one}
use Rattle.iscsi_session.proofs.talking.ask_to_leave.Goals as goal

pub returns-in_ok-write_leave_request-in-Some-clause-asks : goal.returns-in_ok-write_leave_request-in-Some-clause-asks
returns-in_ok-write_leave_request-in-Some-clause-asks g c =
    let out = c.args.connection.now.out.items in
    let said = c.has_answered.ensures.out ∙ c.in_ok-write_leave_request-in-Some.ensures
    ∙ ap (λ n. out ++ bytes_of (leave_request n c.in-Some.seconds)) c.numbers-numbers.ensures in
    inr (
      c.in-Some.ensures.0,
      refl,
      (c.args.connection.now.stat_sn, c.in-Some.seconds, c.in-Some.ensures.1, said_one _ _ _ said),
    )
