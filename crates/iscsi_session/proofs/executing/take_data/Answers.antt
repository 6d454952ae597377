use Rattle.iscsi_session.proofs.Acted.{data_rejected, data_steps, surely}
use Rattle.iscsi_session.proofs.executing.take_data.Goals as goal

pub returns-in-Rejected-clause-taken : goal.returns-in-Rejected-clause-taken
returns-in-Rejected-clause-taken c =
    surely _ _ c.reject.result (
      _,
      data_steps c.args.connection.now.tasks c.take_data.new.self _ c.args.data_out.now c.args.payload.now c.take_data.result _ c.in_ok-take_data.was
          c.take_data.ensures.answer c.take_data.ensures.state c.reject.ensures.tasks,
      data_rejected c.args.connection.now.tasks c.take_data.new.self _ c.args.data_out.now c.args.payload.now c.take_data.result _ c.in-Rejected.reason
          c.args.connection.now.stat_sn _ c.in_ok-take_data.was c.in-Rejected.is c.take_data.ensures.answer c.reject.ensures.tasks,
      c.reject.ensures.rejected,
    )
