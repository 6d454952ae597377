-- The fields of what a target sends, read from a basic header segment h and written into one (RFC 7143, "iSCSI PDU Formats").
use Rattle.std.specs.Prelude.{ℕ, ◌+◌, ◌*◌, ◌%◌, ◌^◌, List, [], ◌∷◌, ◌++◌}
use Rattle.byteorder.specs.Endian.{big_bytes}
use Rattle.iscsi_pdu.specs.Fields.{at, byte, bit, bits, two, four, six, eight, serial, zeros, halves, session_identifier}
use Rattle.iscsi_pdu.specs.Headers.{header}
use Rattle.iscsi_pdu.specs.declared.header.Header.{Header}
use Rattle.iscsi_pdu.specs.Codes.{async_event_code, async_event_of, login_status_code, login_status_of, logout_result_code, logout_result_of, reject_reason_code, reject_reason_of, scsi_status_code, scsi_status_of, service_response_code, service_response_of, stage_code, stage_of, task_management_result_code, task_management_result_of}
use Rattle.iscsi_pdu.specs.Completions.{residual, residual_flags, residual_count, completion, completion_flags, completion_status, completion_stat_sn, completion_count}
use Rattle.iscsi_pdu.specs.declared.nop_in.NopIn.{NopIn}
use Rattle.iscsi_pdu.specs.declared.scsi_response.ScsiResponse.{ScsiResponse}
use Rattle.iscsi_pdu.specs.declared.task_management_response.TaskManagementResponse.{TaskManagementResponse}
use Rattle.iscsi_pdu.specs.declared.login_response.LoginResponse.{LoginResponse}
use Rattle.iscsi_pdu.specs.declared.text_response.TextResponse.{TextResponse}
use Rattle.iscsi_pdu.specs.declared.data_in.DataIn.{DataIn}
use Rattle.iscsi_pdu.specs.declared.logout_response.LogoutResponse.{LogoutResponse}
use Rattle.iscsi_pdu.specs.declared.r2t.ReadyToTransfer.{ReadyToTransfer}
use Rattle.iscsi_pdu.specs.declared.async_message.AsyncMessage.{AsyncMessage}
use Rattle.iscsi_pdu.specs.declared.reject.Reject.{Reject}
use Rattle.iscsi_pdu.specs.declared.unknown_response.UnknownResponse.{UnknownResponse}

-- NOP-In
abbrev pub nop_in : List ℕ → NopIn
nop_in h = record {
  lun = eight h 8;
  initiator_task_tag = four h 16;
  target_transfer_tag = four h 20;
  stat_sn = serial h 24;
  exp_cmd_sn = serial h 28;
  max_cmd_sn = serial h 32;
}

abbrev pub nop_in_header : NopIn → Header
nop_in_header p = header
    (0x20 ∷ 0x80 ∷ 0 ∷ 0 ∷ [])
    (big_bytes 8 p.lun)
    (big_bytes 4 p.initiator_task_tag ++ big_bytes 4 p.target_transfer_tag ++ big_bytes 4 p.stat_sn.number ++ big_bytes 4 p.exp_cmd_sn.number)
    (big_bytes 4 p.max_cmd_sn.number ++ big_bytes 4 0 ++ big_bytes 4 0 ++ big_bytes 4 0)

-- SCSI Response
abbrev pub scsi_response : List ℕ → ScsiResponse
scsi_response h = record {
  response = service_response_of (byte h 2);
  status = scsi_status_of (byte h 3);
  initiator_task_tag = four h 16;
  stat_sn = serial h 24;
  exp_cmd_sn = serial h 28;
  max_cmd_sn = serial h 32;
  exp_data_sn = serial h 36;
  residual = residual h;
}

abbrev pub scsi_response_header : ScsiResponse → Header
scsi_response_header p = header
    (0x21 ∷ (0x80 + residual_flags p.residual) ∷ (service_response_code p.response) ∷ (scsi_status_code p.status) ∷ [])
    (zeros 8)
    (big_bytes 4 p.initiator_task_tag ++ big_bytes 4 0 ++ big_bytes 4 p.stat_sn.number ++ big_bytes 4 p.exp_cmd_sn.number)
    (big_bytes 4 p.max_cmd_sn.number ++ big_bytes 4 p.exp_data_sn.number ++ big_bytes 4 0 ++ big_bytes 4 (residual_count p.residual))

-- Task Management Function Response
abbrev pub task_management_response : List ℕ → TaskManagementResponse
task_management_response h = record {
  response = task_management_result_of (byte h 2);
  initiator_task_tag = four h 16;
  stat_sn = serial h 24;
  exp_cmd_sn = serial h 28;
  max_cmd_sn = serial h 32;
}

abbrev pub task_management_response_header : TaskManagementResponse → Header
task_management_response_header p = header
    (0x22 ∷ 0x80 ∷ (task_management_result_code p.response) ∷ 0 ∷ [])
    (zeros 8)
    (big_bytes 4 p.initiator_task_tag ++ big_bytes 4 0 ++ big_bytes 4 p.stat_sn.number ++ big_bytes 4 p.exp_cmd_sn.number)
    (big_bytes 4 p.max_cmd_sn.number ++ big_bytes 4 0 ++ big_bytes 4 0 ++ big_bytes 4 0)

-- Login Response
abbrev pub login_response : List ℕ → LoginResponse
login_response h = record {
  transit = bit h 1 7;
  continues = bit h 1 6;
  current_stage = stage_of (bits h 1 3 2);
  next_stage = stage_of (bits h 1 1 0);
  version_max = byte h 2;
  version_active = byte h 3;
  isid = six h 8;
  tsih = two h 14;
  initiator_task_tag = four h 16;
  stat_sn = serial h 24;
  exp_cmd_sn = serial h 28;
  max_cmd_sn = serial h 32;
  status = login_status_of (two h 36);
}

abbrev pub login_response_header : LoginResponse → Header
login_response_header p = header
    (0x23 ∷ (at 7 p.transit + at 6 p.continues + 2 ^ 2 * stage_code p.current_stage + stage_code p.next_stage) ∷ p.version_max ∷ p.version_active ∷ [])
    (session_identifier p.isid p.tsih)
    (big_bytes 4 p.initiator_task_tag ++ big_bytes 4 0 ++ big_bytes 4 p.stat_sn.number ++ big_bytes 4 p.exp_cmd_sn.number)
    (big_bytes 4 p.max_cmd_sn.number ++ halves (login_status_code p.status) 0 ++ big_bytes 4 0 ++ big_bytes 4 0)

-- Text Response
abbrev pub text_response : List ℕ → TextResponse
text_response h = record {
  is_final = bit h 1 7;
  continues = bit h 1 6;
  lun = eight h 8;
  initiator_task_tag = four h 16;
  target_transfer_tag = four h 20;
  stat_sn = serial h 24;
  exp_cmd_sn = serial h 28;
  max_cmd_sn = serial h 32;
}

abbrev pub text_response_header : TextResponse → Header
text_response_header p = header
    (0x24 ∷ (at 7 p.is_final + at 6 p.continues) ∷ 0 ∷ 0 ∷ [])
    (big_bytes 8 p.lun)
    (big_bytes 4 p.initiator_task_tag ++ big_bytes 4 p.target_transfer_tag ++ big_bytes 4 p.stat_sn.number ++ big_bytes 4 p.exp_cmd_sn.number)
    (big_bytes 4 p.max_cmd_sn.number ++ big_bytes 4 0 ++ big_bytes 4 0 ++ big_bytes 4 0)

-- SCSI Data-In
abbrev pub data_in : List ℕ → DataIn
data_in h = record {
  is_final = bit h 1 7;
  initiator_task_tag = four h 16;
  completion = completion h;
  exp_cmd_sn = serial h 28;
  max_cmd_sn = serial h 32;
  data_sn = serial h 36;
  buffer_offset = four h 40;
}

abbrev pub data_in_header : DataIn → Header
data_in_header p = header
    (0x25 ∷ (at 7 p.is_final + completion_flags p.completion) ∷ 0 ∷ (completion_status p.completion) ∷ [])
    (zeros 8)
    (big_bytes 4 p.initiator_task_tag ++ big_bytes 4 0xFFFFFFFF ++ big_bytes 4 (completion_stat_sn p.completion) ++ big_bytes 4 p.exp_cmd_sn.number)
    (big_bytes 4 p.max_cmd_sn.number ++ big_bytes 4 p.data_sn.number ++ big_bytes 4 p.buffer_offset ++ big_bytes 4 (completion_count p.completion))

-- Logout Response
abbrev pub logout_response : List ℕ → LogoutResponse
logout_response h = record {
  response = logout_result_of (byte h 2);
  initiator_task_tag = four h 16;
  stat_sn = serial h 24;
  exp_cmd_sn = serial h 28;
  max_cmd_sn = serial h 32;
  time2wait = two h 40;
  time2retain = two h 42;
}

abbrev pub logout_response_header : LogoutResponse → Header
logout_response_header p = header
    (0x26 ∷ 0x80 ∷ (logout_result_code p.response) ∷ 0 ∷ [])
    (zeros 8)
    (big_bytes 4 p.initiator_task_tag ++ big_bytes 4 0 ++ big_bytes 4 p.stat_sn.number ++ big_bytes 4 p.exp_cmd_sn.number)
    (big_bytes 4 p.max_cmd_sn.number ++ big_bytes 4 0 ++ halves p.time2wait p.time2retain ++ big_bytes 4 0)

-- Ready To Transfer (R2T)
abbrev pub ready_to_transfer : List ℕ → ReadyToTransfer
ready_to_transfer h = record {
  lun = eight h 8;
  initiator_task_tag = four h 16;
  target_transfer_tag = four h 20;
  stat_sn = serial h 24;
  exp_cmd_sn = serial h 28;
  max_cmd_sn = serial h 32;
  r2t_sn = serial h 36;
  buffer_offset = four h 40;
  desired_data_transfer_length = four h 44;
}

abbrev pub ready_to_transfer_header : ReadyToTransfer → Header
ready_to_transfer_header p = header
    (0x31 ∷ 0x80 ∷ 0 ∷ 0 ∷ [])
    (big_bytes 8 p.lun)
    (big_bytes 4 p.initiator_task_tag ++ big_bytes 4 p.target_transfer_tag ++ big_bytes 4 p.stat_sn.number ++ big_bytes 4 p.exp_cmd_sn.number)
    (big_bytes 4 p.max_cmd_sn.number ++ big_bytes 4 p.r2t_sn.number ++ big_bytes 4 p.buffer_offset ++ big_bytes 4 p.desired_data_transfer_length)

-- Asynchronous Message
abbrev pub async_message : List ℕ → AsyncMessage
async_message h = record {
  lun = eight h 8;
  stat_sn = serial h 24;
  exp_cmd_sn = serial h 28;
  max_cmd_sn = serial h 32;
  event = async_event_of (byte h 36);
  vendor_code = byte h 37;
  parameter_1 = two h 38;
  parameter_2 = two h 40;
  parameter_3 = two h 42;
}

abbrev pub async_message_header : AsyncMessage → Header
async_message_header p = header
    (0x32 ∷ 0x80 ∷ 0 ∷ 0 ∷ [])
    (big_bytes 8 p.lun)
    (big_bytes 4 0xFFFFFFFF ++ big_bytes 4 0 ++ big_bytes 4 p.stat_sn.number ++ big_bytes 4 p.exp_cmd_sn.number)
    (big_bytes 4 p.max_cmd_sn.number ++ (async_event_code p.event ∷ p.vendor_code ∷ big_bytes 2 p.parameter_1) ++ halves p.parameter_2 p.parameter_3 ++ big_bytes 4 0)

-- Reject
abbrev pub reject : List ℕ → Reject
reject h = record {
  reason = reject_reason_of (byte h 2);
  stat_sn = serial h 24;
  exp_cmd_sn = serial h 28;
  max_cmd_sn = serial h 32;
}

abbrev pub reject_header : Reject → Header
reject_header p = header
    (0x3F ∷ 0x80 ∷ (reject_reason_code p.reason) ∷ 0 ∷ [])
    (zeros 8)
    (big_bytes 4 0xFFFFFFFF ++ big_bytes 4 0 ++ big_bytes 4 p.stat_sn.number ++ big_bytes 4 p.exp_cmd_sn.number)
    (big_bytes 4 p.max_cmd_sn.number ++ big_bytes 4 0 ++ big_bytes 4 0 ++ big_bytes 4 0)

-- any other opcode
abbrev pub unknown_response : List ℕ → UnknownResponse
unknown_response h = record { opcode = bits h 0 5 0 }

abbrev pub unknown_response_header : UnknownResponse → Header
unknown_response_header p = header
    (p.opcode % 2 ^ 6 ∷ 0x80 ∷ 0 ∷ 0 ∷ [])
    (zeros 8)
    (big_bytes 4 0 ++ big_bytes 4 0 ++ big_bytes 4 0 ++ big_bytes 4 0)
    (big_bytes 4 0 ++ big_bytes 4 0 ++ big_bytes 4 0 ++ big_bytes 4 0)
