use Rattle.iscsi_pdu.specs.declared.initiator_header.InitiatorHeader.TheVariants as sent
use Rattle.iscsi_session.proofs.Managed.{data_broke, data_takes, went_on, went_on_broken, work_broke}
use Rattle.iscsi_session.proofs.kinds.NormalSessionSessionKind.take_data.Goals as goal

pub returns-in_err-take_data-clause-worked : goal.returns-in_err-take_data-clause-worked
returns-in_err-take_data-clause-worked g c =
    let k = c.args.connection.now.tasks in
    work_broke g.S.Service.notes g.S.KeepingService.waits g.S.Service.count c.args.self.nexus (sent.DataOut c.args.data_out.now) c.args.payload.now k _ c.args.service.now _
    c.args.connection.now.out.items _ _ c.from_residual.result c.from_residual.ensures.0
    (data_broke g.S.Service.notes g.S.KeepingService.waits c.args.self.nexus k _ c.args.service.now c.args.data_out.now c.args.payload.now c.in_err-take_data.ensures.taken)

pub returns-in_err-go_on-clause-worked : goal.returns-in_err-go_on-clause-worked
returns-in_err-go_on-clause-worked g c =
    let k = c.args.connection.now.tasks in
    went_on_broken g.S.Service.notes g.S.KeepingService.waits g.S.Service.count c.args.self.nexus (sent.DataOut c.args.data_out.now) c.args.payload.now k _ _
    c.args.service.now _ _ c.args.connection.now.out.items _ _ _ c.go_on.result c.from_residual-in_err-go_on.result
    c.from_residual-in_err-go_on.ensures.0
    (data_takes g.S.Service.notes g.S.KeepingService.waits c.args.self.nexus k _ c.args.service.now c.args.data_out.now c.args.payload.now _ c.in_ok-take_data.ensures.taken)
    c.go_on.ensures.gone

pub returns-clause-worked : goal.returns-clause-worked
returns-clause-worked g c =
    let k = c.args.connection.now.tasks in
    went_on g.S.Service.notes g.S.KeepingService.waits g.S.Service.count c.args.self.nexus (sent.DataOut c.args.data_out.now) c.args.payload.now k _ _
    c.args.service.now _ _ c.args.connection.now.out.items _ _
    (data_takes g.S.Service.notes g.S.KeepingService.waits c.args.self.nexus k _ c.args.service.now c.args.data_out.now c.args.payload.now _ c.in_ok-take_data.ensures.taken)
    c.in_ok-go_on.ensures.gone
