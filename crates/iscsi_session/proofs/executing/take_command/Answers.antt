use Rattle.iscsi_session.proofs.Acted.{command_rejected, surely}
use Rattle.iscsi_session.proofs.executing.take_command.Goals as goal

pub returns-in-Rejected-clause-taken : goal.returns-in-Rejected-clause-taken
returns-in-Rejected-clause-taken g c =
    surely _ _ c.reject.result (
      _,
      command_rejected g.S.Service.notes g.S.KeepingService.waits c.args.nexus c.args.connection.now.tasks c.take_command.new.self _ c.args.service.now c.args.command.now
          c.args.payload.now c.take_command.result _ c.in-Rejected.reason c.args.connection.now.stat_sn _ c.in_ok-take_command.was
          c.in-Rejected.is c.take_command.ensures.answer c.take_command.ensures.state c.reject.ensures.tasks,
      c.reject.ensures.rejected,
    )
