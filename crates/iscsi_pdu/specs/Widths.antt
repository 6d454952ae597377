-- The fields of a header fit their bytes.
use Rattle.std.specs.Prelude.{◌≡◌, ℕ, ◌^◌, ◌<◌, ◌≤◌, List, length, Option, Some, None}
use Rattle.iscsi_pdu.specs.Completions.{residual_count}
use Rattle.iscsi_pdu.specs.declared.residual.Residual.{Residual}
use Rattle.iscsi_pdu.specs.declared.completion.Completion.{Completion}
use Rattle.iscsi_pdu.specs.declared.nop_out.NopOut.{NopOut}
use Rattle.iscsi_pdu.specs.declared.scsi_command.ScsiCommand.{ScsiCommand}
use Rattle.iscsi_pdu.specs.declared.task_management_request.TaskManagementRequest.{TaskManagementRequest}
use Rattle.iscsi_pdu.specs.declared.login_request.LoginRequest.{LoginRequest}
use Rattle.iscsi_pdu.specs.declared.text_request.TextRequest.{TextRequest}
use Rattle.iscsi_pdu.specs.declared.data_out.DataOut.{DataOut}
use Rattle.iscsi_pdu.specs.declared.logout_request.LogoutRequest.{LogoutRequest}
use Rattle.iscsi_pdu.specs.declared.snack_request.SnackRequest.{SnackRequest}
use Rattle.iscsi_pdu.specs.declared.nop_in.NopIn.{NopIn}
use Rattle.iscsi_pdu.specs.declared.scsi_response.ScsiResponse.{ScsiResponse}
use Rattle.iscsi_pdu.specs.declared.task_management_response.TaskManagementResponse.{TaskManagementResponse}
use Rattle.iscsi_pdu.specs.declared.login_response.LoginResponse.{LoginResponse}
use Rattle.iscsi_pdu.specs.declared.text_response.TextResponse.{TextResponse}
use Rattle.iscsi_pdu.specs.declared.data_in.DataIn.{DataIn}
use Rattle.iscsi_pdu.specs.declared.logout_response.LogoutResponse.{LogoutResponse}
use Rattle.iscsi_pdu.specs.declared.r2t.ReadyToTransfer.{ReadyToTransfer}
use Rattle.iscsi_pdu.specs.declared.async_message.AsyncMessage.{AsyncMessage}
use Rattle.iscsi_pdu.specs.declared.reject.Reject.{Reject}
use Rattle.iscsi_pdu.specs.Requests.{unknown_request}
use Rattle.iscsi_pdu.specs.Responses.{unknown_response}
use Rattle.iscsi_pdu.specs.InitiatorHeaders.{initiator_header_of}
use Rattle.iscsi_pdu.specs.TargetHeaders.{target_header_of}
use Rattle.iscsi_pdu.specs.declared.unknown_request.UnknownRequest.{UnknownRequest}
use Rattle.iscsi_pdu.specs.declared.initiator_header.InitiatorHeader.{InitiatorHeader}
use Rattle.iscsi_pdu.specs.declared.initiator_header.InitiatorHeader.TheVariants as initiator
use Rattle.iscsi_pdu.specs.declared.unknown_response.UnknownResponse.{UnknownResponse}
use Rattle.iscsi_pdu.specs.declared.target_header.TargetHeader.{TargetHeader}
use Rattle.iscsi_pdu.specs.declared.target_header.TargetHeader.TheVariants as target
use Rattle.iscsi_pdu.specs.Pdus.{InitiatorPduValue, TargetPduValue, further_cdb}
use Rattle.iscsi_pdu.specs.Segments.{extended_ahs}

abbrev pub FitsResidual : Residual → Type 0
FitsResidual r = residual_count r < 2 ^ 32

abbrev pub FitsCompletion : Option Completion → Type 0
FitsCompletion None = Unit {0}
FitsCompletion (Some c) = (c.stat_sn.number < 2 ^ 32) × FitsResidual c.residual

abbrev pub FitsNopOut : NopOut → Type 0
FitsNopOut p = (p.lun < 2 ^ 64) × (p.initiator_task_tag < 2 ^ 32) × (p.target_transfer_tag < 2 ^ 32) × (p.cmd_sn.number < 2 ^ 32) × (p.exp_stat_sn.number < 2 ^ 32)

abbrev pub FitsScsiCommand : ScsiCommand → Type 0
FitsScsiCommand p = (p.lun < 2 ^ 64) × (p.initiator_task_tag < 2 ^ 32) × (p.expected_data_transfer_length < 2 ^ 32) × (p.cmd_sn.number < 2 ^ 32) × (p.exp_stat_sn.number < 2 ^ 32) × (length p.cdb ≡ 16)

abbrev pub FitsTaskManagementRequest : TaskManagementRequest → Type 0
FitsTaskManagementRequest p = (p.lun < 2 ^ 64) × (p.initiator_task_tag < 2 ^ 32) × (p.referenced_task_tag < 2 ^ 32) × (p.cmd_sn.number < 2 ^ 32) × (p.exp_stat_sn.number < 2 ^ 32) × (p.ref_cmd_sn.number < 2 ^ 32)

abbrev pub FitsLoginRequest : LoginRequest → Type 0
FitsLoginRequest p = (p.isid < 2 ^ 48) × (p.tsih < 2 ^ 16) × (p.initiator_task_tag < 2 ^ 32) × (p.cid < 2 ^ 16) × (p.cmd_sn.number < 2 ^ 32) × (p.exp_stat_sn.number < 2 ^ 32)

abbrev pub FitsTextRequest : TextRequest → Type 0
FitsTextRequest p = (p.lun < 2 ^ 64) × (p.initiator_task_tag < 2 ^ 32) × (p.target_transfer_tag < 2 ^ 32) × (p.cmd_sn.number < 2 ^ 32) × (p.exp_stat_sn.number < 2 ^ 32)

abbrev pub FitsDataOut : DataOut → Type 0
FitsDataOut p = (p.lun < 2 ^ 64) × (p.initiator_task_tag < 2 ^ 32) × (p.target_transfer_tag < 2 ^ 32) × (p.exp_stat_sn.number < 2 ^ 32) × (p.data_sn.number < 2 ^ 32) × (p.buffer_offset < 2 ^ 32)

abbrev pub FitsLogoutRequest : LogoutRequest → Type 0
FitsLogoutRequest p = (p.initiator_task_tag < 2 ^ 32) × (p.cid < 2 ^ 16) × (p.cmd_sn.number < 2 ^ 32) × (p.exp_stat_sn.number < 2 ^ 32)

abbrev pub FitsSnackRequest : SnackRequest → Type 0
FitsSnackRequest p = (p.lun < 2 ^ 64) × (p.initiator_task_tag < 2 ^ 32) × (p.target_transfer_tag < 2 ^ 32) × (p.exp_stat_sn.number < 2 ^ 32) × (p.beg_run < 2 ^ 32) × (p.run_length < 2 ^ 32)

abbrev pub FitsNopIn : NopIn → Type 0
FitsNopIn p = (p.lun < 2 ^ 64) × (p.initiator_task_tag < 2 ^ 32) × (p.target_transfer_tag < 2 ^ 32) × (p.stat_sn.number < 2 ^ 32) × (p.exp_cmd_sn.number < 2 ^ 32) × (p.max_cmd_sn.number < 2 ^ 32)

abbrev pub FitsScsiResponse : ScsiResponse → Type 0
FitsScsiResponse p = (p.initiator_task_tag < 2 ^ 32) × (p.stat_sn.number < 2 ^ 32) × (p.exp_cmd_sn.number < 2 ^ 32) × (p.max_cmd_sn.number < 2 ^ 32) × (p.exp_data_sn.number < 2 ^ 32) × FitsResidual p.residual

abbrev pub FitsTaskManagementResponse : TaskManagementResponse → Type 0
FitsTaskManagementResponse p = (p.initiator_task_tag < 2 ^ 32) × (p.stat_sn.number < 2 ^ 32) × (p.exp_cmd_sn.number < 2 ^ 32) × (p.max_cmd_sn.number < 2 ^ 32)

abbrev pub FitsLoginResponse : LoginResponse → Type 0
FitsLoginResponse p = (p.isid < 2 ^ 48) × (p.tsih < 2 ^ 16) × (p.initiator_task_tag < 2 ^ 32) × (p.stat_sn.number < 2 ^ 32) × (p.exp_cmd_sn.number < 2 ^ 32) × (p.max_cmd_sn.number < 2 ^ 32)

abbrev pub FitsTextResponse : TextResponse → Type 0
FitsTextResponse p = (p.lun < 2 ^ 64) × (p.initiator_task_tag < 2 ^ 32) × (p.target_transfer_tag < 2 ^ 32) × (p.stat_sn.number < 2 ^ 32) × (p.exp_cmd_sn.number < 2 ^ 32) × (p.max_cmd_sn.number < 2 ^ 32)

abbrev pub FitsDataIn : DataIn → Type 0
FitsDataIn p = (p.initiator_task_tag < 2 ^ 32) × FitsCompletion p.completion × (p.exp_cmd_sn.number < 2 ^ 32) × (p.max_cmd_sn.number < 2 ^ 32) × (p.data_sn.number < 2 ^ 32) × (p.buffer_offset < 2 ^ 32)

abbrev pub FitsLogoutResponse : LogoutResponse → Type 0
FitsLogoutResponse p = (p.initiator_task_tag < 2 ^ 32) × (p.stat_sn.number < 2 ^ 32) × (p.exp_cmd_sn.number < 2 ^ 32) × (p.max_cmd_sn.number < 2 ^ 32) × (p.time2wait < 2 ^ 16) × (p.time2retain < 2 ^ 16)

abbrev pub FitsReadyToTransfer : ReadyToTransfer → Type 0
FitsReadyToTransfer p = (p.lun < 2 ^ 64) × (p.initiator_task_tag < 2 ^ 32) × (p.target_transfer_tag < 2 ^ 32) × (p.stat_sn.number < 2 ^ 32) × (p.exp_cmd_sn.number < 2 ^ 32) × (p.max_cmd_sn.number < 2 ^ 32) × (p.r2t_sn.number < 2 ^ 32) × (p.buffer_offset < 2 ^ 32) × (p.desired_data_transfer_length < 2 ^ 32)

abbrev pub FitsAsyncMessage : AsyncMessage → Type 0
FitsAsyncMessage p = (p.lun < 2 ^ 64) × (p.stat_sn.number < 2 ^ 32) × (p.exp_cmd_sn.number < 2 ^ 32) × (p.max_cmd_sn.number < 2 ^ 32) × (p.parameter_1 < 2 ^ 16) × (p.parameter_2 < 2 ^ 16) × (p.parameter_3 < 2 ^ 16)

abbrev pub FitsReject : Reject → Type 0
FitsReject p = (p.stat_sn.number < 2 ^ 32) × (p.exp_cmd_sn.number < 2 ^ 32) × (p.max_cmd_sn.number < 2 ^ 32)

-- no other PDU has the opcode
abbrev pub FitsUnknownRequest : UnknownRequest → Type 0
FitsUnknownRequest p = ((h : List ℕ) → initiator_header_of p.opcode h ≡ initiator.Unknown (unknown_request h)) × (p.opcode < 2 ^ 6) × (p.initiator_task_tag < 2 ^ 32) × (p.cmd_sn.number < 2 ^ 32)

abbrev pub FitsInitiator : InitiatorHeader → Type 0
FitsInitiator (initiator.NopOut p) = FitsNopOut p
FitsInitiator (initiator.ScsiCommand p) = FitsScsiCommand p
FitsInitiator (initiator.TaskManagementRequest p) = FitsTaskManagementRequest p
FitsInitiator (initiator.LoginRequest p) = FitsLoginRequest p
FitsInitiator (initiator.TextRequest p) = FitsTextRequest p
FitsInitiator (initiator.DataOut p) = FitsDataOut p
FitsInitiator (initiator.LogoutRequest p) = FitsLogoutRequest p
FitsInitiator (initiator.SnackRequest p) = FitsSnackRequest p
FitsInitiator (initiator.Unknown p) = FitsUnknownRequest p

-- no other PDU has the opcode
abbrev pub FitsUnknownResponse : UnknownResponse → Type 0
FitsUnknownResponse p = ((h : List ℕ) → target_header_of p.opcode h ≡ target.Unknown (unknown_response h)) × (p.opcode < 2 ^ 6)

abbrev pub FitsTarget : TargetHeader → Type 0
FitsTarget (target.NopIn p) = FitsNopIn p
FitsTarget (target.ScsiResponse p) = FitsScsiResponse p
FitsTarget (target.TaskManagementResponse p) = FitsTaskManagementResponse p
FitsTarget (target.LoginResponse p) = FitsLoginResponse p
FitsTarget (target.TextResponse p) = FitsTextResponse p
FitsTarget (target.DataIn p) = FitsDataIn p
FitsTarget (target.LogoutResponse p) = FitsLogoutResponse p
FitsTarget (target.ReadyToTransfer p) = FitsReadyToTransfer p
FitsTarget (target.AsyncMessage p) = FitsAsyncMessage p
FitsTarget (target.Reject p) = FitsReject p
FitsTarget (target.Unknown p) = FitsUnknownResponse p

-- a PDU that its bytes tell whole, to a receiver of data segments up to the limit: a CDB's further bytes, at most 252, are a
-- SCSI Command's
abbrev pub IsInitiatorWritable : (limit : ℕ) → InitiatorPduValue → Type 0
IsInitiatorWritable limit p =
    FitsInitiator p.header × (length p.payload ≤ limit) × (length p.payload < 2 ^ 24) × (length p.extended_cdb ≤ 252)
    × (further_cdb p.header (extended_ahs p.extended_cdb) ≡ Some p.extended_cdb)

abbrev pub IsTargetWritable : (limit : ℕ) → TargetPduValue → Type 0
IsTargetWritable limit p = FitsTarget p.header × (length p.payload ≤ limit) × (length p.payload < 2 ^ 24)
