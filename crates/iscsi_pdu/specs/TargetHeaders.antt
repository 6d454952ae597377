-- The headers of a target by their opcodes, bits 5 to 0 of byte 0 (RFC 7143, "Opcode").
use Rattle.std.specs.Prelude.{ℕ, ◌==◌, List, if◌then◌else◌}
use Rattle.iscsi_pdu.specs.Fields.{bits}
use Rattle.iscsi_pdu.specs.Responses.{nop_in, scsi_response, task_management_response, login_response, text_response, data_in, logout_response, ready_to_transfer, async_message, reject, nop_in_header, scsi_response_header, task_management_response_header, login_response_header, text_response_header, data_in_header, logout_response_header, ready_to_transfer_header, async_message_header, reject_header, unknown_response, unknown_response_header}
use Rattle.iscsi_pdu.specs.declared.header.Header.{Header}
use Rattle.iscsi_pdu.specs.declared.target_header.TargetHeader.{TargetHeader}
use Rattle.iscsi_pdu.specs.declared.target_header.TargetHeader.TheVariants as header

abbrev pub target_header_of : (opcode : ℕ) → List ℕ → TargetHeader
target_header_of opcode h =
    if opcode == 0x20 then header.NopIn (nop_in h)
    else if opcode == 0x21 then header.ScsiResponse (scsi_response h)
    else if opcode == 0x22 then header.TaskManagementResponse (task_management_response h)
    else if opcode == 0x23 then header.LoginResponse (login_response h)
    else if opcode == 0x24 then header.TextResponse (text_response h)
    else if opcode == 0x25 then header.DataIn (data_in h)
    else if opcode == 0x26 then header.LogoutResponse (logout_response h)
    else if opcode == 0x31 then header.ReadyToTransfer (ready_to_transfer h)
    else if opcode == 0x32 then header.AsyncMessage (async_message h)
    else if opcode == 0x3F then header.Reject (reject h)
    else header.Unknown (unknown_response h)

unfoldable pub target_header : List ℕ → TargetHeader
target_header h = target_header_of (bits h 0 5 0) h

abbrev pub target_header_parts : TargetHeader → Header
target_header_parts (header.NopIn p) = nop_in_header p
target_header_parts (header.ScsiResponse p) = scsi_response_header p
target_header_parts (header.TaskManagementResponse p) = task_management_response_header p
target_header_parts (header.LoginResponse p) = login_response_header p
target_header_parts (header.TextResponse p) = text_response_header p
target_header_parts (header.DataIn p) = data_in_header p
target_header_parts (header.LogoutResponse p) = logout_response_header p
target_header_parts (header.ReadyToTransfer p) = ready_to_transfer_header p
target_header_parts (header.AsyncMessage p) = async_message_header p
target_header_parts (header.Reject p) = reject_header p
target_header_parts (header.Unknown p) = unknown_response_header p
