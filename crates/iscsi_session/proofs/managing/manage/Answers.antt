use Rattle.std.proofs.Common.{◌∙◌, ◌++◌, ap, rules}
use Rattle.iscsi_answers.specs.Single.{task_management_answer}
use Rattle.iscsi_answers.specs.Written.{bytes_of}
use Rattle.iscsi_session.proofs.Acted.{said_one}
use Rattle.iscsi_session.proofs.Managed.{managed}
use Rattle.iscsi_session.proofs.managing.manage.Goals as goal

pub returns-in_err-write_task_management_response-clause-managed : goal.returns-in_err-write_task_management_response-clause-managed
returns-in_err-write_task_management_response-clause-managed g c = (
  _,
  managed g.S.Service.notes g.S.Service.count c.args.request.now c.args.connection.now.tasks c.take_number.new.self
      c.result_of-result.new.tasks _ c.args.service.now _ c.result_of-result.result c.args.connection.now.stat_sn (cc)
      c.if-not-take_number.ensures.state c.result_of-result.ensures.managed cc,
  search rules,
)

pub returns-clause-managed : goal.returns-clause-managed
returns-clause-managed g c = (
  _,
  managed g.S.Service.notes g.S.Service.count c.args.request.now c.args.connection.now.tasks c.take_number.new.self
      c.result_of-result.new.tasks _ c.args.service.now _ c.result_of-result.result c.args.connection.now.stat_sn (cc)
      c.if-not-take_number.ensures.state c.result_of-result.ensures.managed c.has_answered.ensures.tasks,
  said_one _ _ _ (c.has_answered.ensures.out ∙ c.in_ok-write_task_management_response.ensures
      ∙ ap (λ n. c.args.connection.now.out.items
      ++ bytes_of (task_management_answer n c.args.request.now.initiator_task_tag c.result_of-result.result)) c.numbers-numbers.ensures),
)
