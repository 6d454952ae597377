-- The headers of an initiator by their opcodes, bits 5 to 0 of byte 0 (RFC 7143, "Opcode").
use Rattle.std.specs.Prelude.{ℕ, ◌==◌, List, if◌then◌else◌}
use Rattle.iscsi_pdu.specs.Fields.{bits}
use Rattle.iscsi_pdu.specs.Requests.{nop_out, scsi_command, task_management_request, login_request, text_request, data_out, logout_request, snack_request, nop_out_header, scsi_command_header, task_management_request_header, login_request_header, text_request_header, data_out_header, logout_request_header, snack_request_header, unknown_request, unknown_request_header}
use Rattle.iscsi_pdu.specs.declared.header.Header.{Header}
use Rattle.iscsi_pdu.specs.declared.initiator_header.InitiatorHeader.{InitiatorHeader}
use Rattle.iscsi_pdu.specs.declared.initiator_header.InitiatorHeader.TheVariants as header

abbrev pub initiator_header_of : (opcode : ℕ) → List ℕ → InitiatorHeader
initiator_header_of opcode h =
    if opcode == 0x00 then header.NopOut (nop_out h)
    else if opcode == 0x01 then header.ScsiCommand (scsi_command h)
    else if opcode == 0x02 then header.TaskManagementRequest (task_management_request h)
    else if opcode == 0x03 then header.LoginRequest (login_request h)
    else if opcode == 0x04 then header.TextRequest (text_request h)
    else if opcode == 0x05 then header.DataOut (data_out h)
    else if opcode == 0x06 then header.LogoutRequest (logout_request h)
    else if opcode == 0x10 then header.SnackRequest (snack_request h)
    else header.Unknown (unknown_request h)

unfoldable pub initiator_header : List ℕ → InitiatorHeader
initiator_header h = initiator_header_of (bits h 0 5 0) h

abbrev pub initiator_header_parts : InitiatorHeader → Header
initiator_header_parts (header.NopOut p) = nop_out_header p
initiator_header_parts (header.ScsiCommand p) = scsi_command_header p
initiator_header_parts (header.TaskManagementRequest p) = task_management_request_header p
initiator_header_parts (header.LoginRequest p) = login_request_header p
initiator_header_parts (header.TextRequest p) = text_request_header p
initiator_header_parts (header.DataOut p) = data_out_header p
initiator_header_parts (header.LogoutRequest p) = logout_request_header p
initiator_header_parts (header.SnackRequest p) = snack_request_header p
initiator_header_parts (header.Unknown p) = unknown_request_header p
