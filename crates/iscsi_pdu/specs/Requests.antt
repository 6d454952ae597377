-- The fields of what an initiator sends, read from a basic header segment h and written into one (RFC 7143, "iSCSI PDU Formats").
use Rattle.std.specs.Prelude.{ℕ, ◌+◌, ◌*◌, ◌%◌, ◌^◌, List, [], ◌∷◌, ◌++◌, take, drop}
use Rattle.byteorder.specs.Endian.{big_bytes}
use Rattle.iscsi_pdu.specs.Fields.{at, byte, bit, bits, two, four, six, eight, serial, zeros, halves, session_identifier}
use Rattle.iscsi_pdu.specs.Headers.{header}
use Rattle.iscsi_pdu.specs.declared.header.Header.{Header}
use Rattle.iscsi_pdu.specs.Codes.{logout_reason_code, logout_reason_of, snack_type_code, snack_type_of, stage_code, stage_of, task_attribute_code, task_attribute_of, task_management_function_code, task_management_function_of}
use Rattle.iscsi_pdu.specs.declared.nop_out.NopOut.{NopOut}
use Rattle.iscsi_pdu.specs.declared.scsi_command.ScsiCommand.{ScsiCommand}
use Rattle.iscsi_pdu.specs.declared.task_management_request.TaskManagementRequest.{TaskManagementRequest}
use Rattle.iscsi_pdu.specs.declared.login_request.LoginRequest.{LoginRequest}
use Rattle.iscsi_pdu.specs.declared.text_request.TextRequest.{TextRequest}
use Rattle.iscsi_pdu.specs.declared.data_out.DataOut.{DataOut}
use Rattle.iscsi_pdu.specs.declared.logout_request.LogoutRequest.{LogoutRequest}
use Rattle.iscsi_pdu.specs.declared.snack_request.SnackRequest.{SnackRequest}
use Rattle.iscsi_pdu.specs.declared.unknown_request.UnknownRequest.{UnknownRequest}

-- NOP-Out
abbrev pub nop_out : List ℕ → NopOut
nop_out h = record {
  immediate = bit h 0 6;
  lun = eight h 8;
  initiator_task_tag = four h 16;
  target_transfer_tag = four h 20;
  cmd_sn = serial h 24;
  exp_stat_sn = serial h 28;
}

abbrev pub nop_out_header : NopOut → Header
nop_out_header p = header
    ((at 6 p.immediate + 0x00) ∷ 0x80 ∷ 0 ∷ 0 ∷ [])
    (big_bytes 8 p.lun)
    (big_bytes 4 p.initiator_task_tag ++ big_bytes 4 p.target_transfer_tag ++ big_bytes 4 p.cmd_sn.number ++ big_bytes 4 p.exp_stat_sn.number)
    (big_bytes 4 0 ++ big_bytes 4 0 ++ big_bytes 4 0 ++ big_bytes 4 0)

-- SCSI Command
abbrev pub scsi_command : List ℕ → ScsiCommand
scsi_command h = record {
  immediate = bit h 0 6;
  is_final = bit h 1 7;
  reads = bit h 1 6;
  writes = bit h 1 5;
  task_attribute = task_attribute_of (bits h 1 2 0);
  lun = eight h 8;
  initiator_task_tag = four h 16;
  expected_data_transfer_length = four h 20;
  cmd_sn = serial h 24;
  exp_stat_sn = serial h 28;
  cdb = take 16 (drop 32 h);
}

abbrev pub scsi_command_header : ScsiCommand → Header
scsi_command_header p = header
    ((at 6 p.immediate + 0x01) ∷ (at 7 p.is_final + at 6 p.reads + at 5 p.writes + task_attribute_code p.task_attribute) ∷ 0 ∷ 0 ∷ [])
    (big_bytes 8 p.lun)
    (big_bytes 4 p.initiator_task_tag ++ big_bytes 4 p.expected_data_transfer_length ++ big_bytes 4 p.cmd_sn.number ++ big_bytes 4 p.exp_stat_sn.number)
    p.cdb

-- Task Management Function Request
abbrev pub task_management_request : List ℕ → TaskManagementRequest
task_management_request h = record {
  immediate = bit h 0 6;
  function = task_management_function_of (bits h 1 6 0);
  lun = eight h 8;
  initiator_task_tag = four h 16;
  referenced_task_tag = four h 20;
  cmd_sn = serial h 24;
  exp_stat_sn = serial h 28;
  ref_cmd_sn = serial h 32;
}

abbrev pub task_management_request_header : TaskManagementRequest → Header
task_management_request_header p = header
    ((at 6 p.immediate + 0x02) ∷ (0x80 + task_management_function_code p.function) ∷ 0 ∷ 0 ∷ [])
    (big_bytes 8 p.lun)
    (big_bytes 4 p.initiator_task_tag ++ big_bytes 4 p.referenced_task_tag ++ big_bytes 4 p.cmd_sn.number ++ big_bytes 4 p.exp_stat_sn.number)
    (big_bytes 4 p.ref_cmd_sn.number ++ big_bytes 4 0 ++ big_bytes 4 0 ++ big_bytes 4 0)

-- Login Request
abbrev pub login_request : List ℕ → LoginRequest
login_request h = record {
  transit = bit h 1 7;
  continues = bit h 1 6;
  current_stage = stage_of (bits h 1 3 2);
  next_stage = stage_of (bits h 1 1 0);
  version_max = byte h 2;
  version_min = byte h 3;
  isid = six h 8;
  tsih = two h 14;
  initiator_task_tag = four h 16;
  cid = two h 20;
  cmd_sn = serial h 24;
  exp_stat_sn = serial h 28;
}

abbrev pub login_request_header : LoginRequest → Header
login_request_header p = header
    ((0x40 + 0x03) ∷ (at 7 p.transit + at 6 p.continues + 2 ^ 2 * stage_code p.current_stage + stage_code p.next_stage) ∷ p.version_max ∷ p.version_min ∷ [])
    (session_identifier p.isid p.tsih)
    (big_bytes 4 p.initiator_task_tag ++ halves p.cid 0 ++ big_bytes 4 p.cmd_sn.number ++ big_bytes 4 p.exp_stat_sn.number)
    (big_bytes 4 0 ++ big_bytes 4 0 ++ big_bytes 4 0 ++ big_bytes 4 0)

-- Text Request
abbrev pub text_request : List ℕ → TextRequest
text_request h = record {
  immediate = bit h 0 6;
  is_final = bit h 1 7;
  continues = bit h 1 6;
  lun = eight h 8;
  initiator_task_tag = four h 16;
  target_transfer_tag = four h 20;
  cmd_sn = serial h 24;
  exp_stat_sn = serial h 28;
}

abbrev pub text_request_header : TextRequest → Header
text_request_header p = header
    ((at 6 p.immediate + 0x04) ∷ (at 7 p.is_final + at 6 p.continues) ∷ 0 ∷ 0 ∷ [])
    (big_bytes 8 p.lun)
    (big_bytes 4 p.initiator_task_tag ++ big_bytes 4 p.target_transfer_tag ++ big_bytes 4 p.cmd_sn.number ++ big_bytes 4 p.exp_stat_sn.number)
    (big_bytes 4 0 ++ big_bytes 4 0 ++ big_bytes 4 0 ++ big_bytes 4 0)

-- SCSI Data-Out
abbrev pub data_out : List ℕ → DataOut
data_out h = record {
  is_final = bit h 1 7;
  lun = eight h 8;
  initiator_task_tag = four h 16;
  target_transfer_tag = four h 20;
  exp_stat_sn = serial h 28;
  data_sn = serial h 36;
  buffer_offset = four h 40;
}

abbrev pub data_out_header : DataOut → Header
data_out_header p = header
    (0x05 ∷ (at 7 p.is_final) ∷ 0 ∷ 0 ∷ [])
    (big_bytes 8 p.lun)
    (big_bytes 4 p.initiator_task_tag ++ big_bytes 4 p.target_transfer_tag ++ big_bytes 4 0 ++ big_bytes 4 p.exp_stat_sn.number)
    (big_bytes 4 0 ++ big_bytes 4 p.data_sn.number ++ big_bytes 4 p.buffer_offset ++ big_bytes 4 0)

-- Logout Request
abbrev pub logout_request : List ℕ → LogoutRequest
logout_request h = record {
  immediate = bit h 0 6;
  reason = logout_reason_of (bits h 1 6 0);
  initiator_task_tag = four h 16;
  cid = two h 20;
  cmd_sn = serial h 24;
  exp_stat_sn = serial h 28;
}

abbrev pub logout_request_header : LogoutRequest → Header
logout_request_header p = header
    ((at 6 p.immediate + 0x06) ∷ (0x80 + logout_reason_code p.reason) ∷ 0 ∷ 0 ∷ [])
    (zeros 8)
    (big_bytes 4 p.initiator_task_tag ++ halves p.cid 0 ++ big_bytes 4 p.cmd_sn.number ++ big_bytes 4 p.exp_stat_sn.number)
    (big_bytes 4 0 ++ big_bytes 4 0 ++ big_bytes 4 0 ++ big_bytes 4 0)

-- SNACK Request
abbrev pub snack_request : List ℕ → SnackRequest
snack_request h = record {
  snack_type = snack_type_of (bits h 1 3 0);
  lun = eight h 8;
  initiator_task_tag = four h 16;
  target_transfer_tag = four h 20;
  exp_stat_sn = serial h 28;
  beg_run = four h 40;
  run_length = four h 44;
}

abbrev pub snack_request_header : SnackRequest → Header
snack_request_header p = header
    (0x10 ∷ (0x80 + snack_type_code p.snack_type) ∷ 0 ∷ 0 ∷ [])
    (big_bytes 8 p.lun)
    (big_bytes 4 p.initiator_task_tag ++ big_bytes 4 p.target_transfer_tag ++ big_bytes 4 0 ++ big_bytes 4 p.exp_stat_sn.number)
    (big_bytes 4 0 ++ big_bytes 4 0 ++ big_bytes 4 p.beg_run ++ big_bytes 4 p.run_length)

-- any other opcode
abbrev pub unknown_request : List ℕ → UnknownRequest
unknown_request h = record { immediate = bit h 0 6; opcode = bits h 0 5 0; initiator_task_tag = four h 16; cmd_sn = serial h 24 }

abbrev pub unknown_request_header : UnknownRequest → Header
unknown_request_header p = header
    ((at 6 p.immediate + p.opcode % 2 ^ 6) ∷ 0x80 ∷ 0 ∷ 0 ∷ [])
    (zeros 8)
    (big_bytes 4 p.initiator_task_tag ++ big_bytes 4 0 ++ big_bytes 4 p.cmd_sn.number ++ big_bytes 4 0)
    (big_bytes 4 0 ++ big_bytes 4 0 ++ big_bytes 4 0 ++ big_bytes 4 0)
