use Rattle.iscsi_pdu.specs.declared.initiator_header.InitiatorHeader.TheVariants as sent
use Rattle.iscsi_session.proofs.Managed.{went_on, went_on_broken, work_broke}
use Rattle.iscsi_session.proofs.kinds.NormalSessionSessionKind.take_command.Goals as goal

pub returns-in_err-take_command-clause-worked : goal.returns-in_err-take_command-clause-worked
returns-in_err-take_command-clause-worked g c =
    let k = c.args.connection.now.tasks in
    work_broke g.S.Service.notes g.S.KeepingService.waits g.S.Service.count c.args.self.nexus (sent.ScsiCommand c.args.command.now) c.args.payload.now k _ c.args.service.now _
    c.args.connection.now.out.items _ _ c.from_residual.result c.from_residual.ensures.0 c.in_err-take_command.ensures.taken

pub returns-in_err-go_on-clause-worked : goal.returns-in_err-go_on-clause-worked
returns-in_err-go_on-clause-worked g c =
    let k = c.args.connection.now.tasks in
    went_on_broken g.S.Service.notes g.S.KeepingService.waits g.S.Service.count c.args.self.nexus (sent.ScsiCommand c.args.command.now) c.args.payload.now k _ _
    c.args.service.now _ _ c.args.connection.now.out.items _ _ _ c.go_on.result c.from_residual-in_err-go_on.result
    c.from_residual-in_err-go_on.ensures.0 c.in_ok-take_command.ensures.taken c.go_on.ensures.gone

pub returns-clause-worked : goal.returns-clause-worked
returns-clause-worked g c =
    let k = c.args.connection.now.tasks in
    went_on g.S.Service.notes g.S.KeepingService.waits g.S.Service.count c.args.self.nexus (sent.ScsiCommand c.args.command.now) c.args.payload.now k _ _
    c.args.service.now _ _ c.args.connection.now.out.items _ _ c.in_ok-take_command.ensures.taken c.in_ok-go_on.ensures.gone
