use Rattle.std.proofs.Common.{◌∙◌, ap, refl, sym}
use Rattle.iscsi_pdu.specs.Views.{initiator_value}
use Rattle.iscsi_session.specs.Saying.{behind_other}
use Rattle.iscsi_session.proofs.Managed.{idle_behind, other_said, task_said}
use Rattle.iscsi_session.proofs.answering.answer.Goals as goal

pub returns-in-ScsiCommand-clause-said : goal.returns-in-ScsiCommand-clause-said
returns-in-ScsiCommand-clause-said g c =
    task_said (g.K.SessionKind.works c.args.kind) (initiator_value c.args.pdu.now) _ c.args.connection.now.tasks _ c.args.service.now _
    c.args.connection.now.out.items _ _ c.take_command.result c.in-ScsiCommand.is refl c.take_command.ensures.worked

pub returns-in-DataOut-clause-said : goal.returns-in-DataOut-clause-said
returns-in-DataOut-clause-said g c =
    task_said (g.K.SessionKind.works c.args.kind) (initiator_value c.args.pdu.now) _ c.args.connection.now.tasks _ c.args.service.now _
    c.args.connection.now.out.items _ _ c.take_data.result c.in-DataOut.is refl c.take_data.ensures.worked

pub returns-in-TaskManagementRequest-clause-said : goal.returns-in-TaskManagementRequest-clause-said
returns-in-TaskManagementRequest-clause-said g c =
    task_said (g.K.SessionKind.works c.args.kind) (initiator_value c.args.pdu.now) _ c.args.connection.now.tasks _ c.args.service.now _
    c.args.connection.now.out.items _ _ c.take_management.result c.in-TaskManagementRequest.is refl
    (c.take_management.ensures.worked c.args.pdu.now.payload.now)

pub returns-in-NopOut-clause-said : goal.returns-in-NopOut-clause-said
returns-in-NopOut-clause-said g c =
    other_said (g.K.SessionKind.works c.args.kind) (initiator_value c.args.pdu.now) _ c.args.connection.now.tasks _ c.args.service.now
    c.args.connection.now.out.items _ _ c.take_nop_out.result c.in-NopOut.is refl c.take_nop_out.ensures.tasks c.take_nop_out.ensures.said

pub returns-in-NopOut-clause-idle : goal.returns-in-NopOut-clause-idle
returns-in-NopOut-clause-idle g c idle =
    let k = c.args.connection.now.tasks in
    idle_behind c.take_nop_out.result k _ c.args.pdu.now.header (c.take_nop_out.ensures.tasks ∙ ap (behind_other k) (sym c.in-NopOut.is)) idle

pub returns-in-TextRequest-clause-said : goal.returns-in-TextRequest-clause-said
returns-in-TextRequest-clause-said g c =
    other_said (g.K.SessionKind.works c.args.kind) (initiator_value c.args.pdu.now) _ c.args.connection.now.tasks _ c.args.service.now
    c.args.connection.now.out.items _ _ c.take_text.result c.in-TextRequest.is refl c.take_text.ensures.tasks c.take_text.ensures.said

pub returns-in-TextRequest-clause-idle : goal.returns-in-TextRequest-clause-idle
returns-in-TextRequest-clause-idle g c idle =
    let k = c.args.connection.now.tasks in
    idle_behind c.take_text.result k _ c.args.pdu.now.header (c.take_text.ensures.tasks ∙ ap (behind_other k) (sym c.in-TextRequest.is)) idle

pub returns-in-LogoutRequest-clause-said : goal.returns-in-LogoutRequest-clause-said
returns-in-LogoutRequest-clause-said g c =
    other_said (g.K.SessionKind.works c.args.kind) (initiator_value c.args.pdu.now) _ c.args.connection.now.tasks _ c.args.service.now
    c.args.connection.now.out.items _ _ c.take_logout.result c.in-LogoutRequest.is refl c.take_logout.ensures.tasks c.take_logout.ensures.said

pub returns-in-LogoutRequest-clause-idle : goal.returns-in-LogoutRequest-clause-idle
returns-in-LogoutRequest-clause-idle g c idle =
    let k = c.args.connection.now.tasks in
    idle_behind c.take_logout.result k _ c.args.pdu.now.header (c.take_logout.ensures.tasks ∙ ap (behind_other k) (sym c.in-LogoutRequest.is)) idle

pub returns-in-Unknown-clause-said : goal.returns-in-Unknown-clause-said
returns-in-Unknown-clause-said g c =
    other_said (g.K.SessionKind.works c.args.kind) (initiator_value c.args.pdu.now) _ c.args.connection.now.tasks _ c.args.service.now
    c.args.connection.now.out.items _ _ c.take_unsupported.result c.in-Unknown.is refl c.take_unsupported.ensures.tasks c.take_unsupported.ensures.said

pub returns-in-Unknown-clause-idle : goal.returns-in-Unknown-clause-idle
returns-in-Unknown-clause-idle g c idle =
    let k = c.args.connection.now.tasks in
    idle_behind c.take_unsupported.result k _ c.args.pdu.now.header (c.take_unsupported.ensures.tasks ∙ ap (behind_other k) (sym c.in-Unknown.is)) idle

pub returns-in-LoginRequest-clause-said : goal.returns-in-LoginRequest-clause-said
returns-in-LoginRequest-clause-said g c =
    other_said (g.K.SessionKind.works c.args.kind) (initiator_value c.args.pdu.now) _ c.args.connection.now.tasks _ c.args.service.now
    c.args.connection.now.out.items _ _ c.turn_down.result c.in-LoginRequest.is refl c.turn_down.ensures.tasks c.turn_down.ensures.said

pub returns-in-LoginRequest-clause-idle : goal.returns-in-LoginRequest-clause-idle
returns-in-LoginRequest-clause-idle g c idle =
    let k = c.args.connection.now.tasks in
    idle_behind c.turn_down.result k _ c.args.pdu.now.header (c.turn_down.ensures.tasks ∙ ap (behind_other k) (sym c.in-LoginRequest.is)) idle

pub returns-in-SnackRequest-clause-said : goal.returns-in-SnackRequest-clause-said
returns-in-SnackRequest-clause-said g c =
    other_said (g.K.SessionKind.works c.args.kind) (initiator_value c.args.pdu.now) _ c.args.connection.now.tasks _ c.args.service.now
    c.args.connection.now.out.items _ _ c.turn_down-in-SnackRequest.result c.in-SnackRequest.is refl c.turn_down-in-SnackRequest.ensures.tasks
    c.turn_down-in-SnackRequest.ensures.said

pub returns-in-SnackRequest-clause-idle : goal.returns-in-SnackRequest-clause-idle
returns-in-SnackRequest-clause-idle g c idle =
    let k = c.args.connection.now.tasks in
    idle_behind c.turn_down-in-SnackRequest.result k _ c.args.pdu.now.header
    (c.turn_down-in-SnackRequest.ensures.tasks ∙ ap (behind_other k) (sym c.in-SnackRequest.is)) idle
