-- PDUs byte by byte, a row of a figure after the other (RFC 7143, "iSCSI PDU Formats"), and what they say.
use Rattle.std.specs.Prelude.{◌≡◌, ◌<◌, ℕ, Bool, true, false, List, [], ◌∷◌, ◌++◌, replicate, Some, None}
use Rattle.iscsi_pdu.specs.Codes.{login_status_code}
use Rattle.iscsi_pdu.specs.Pdus.{InitiatorPduValue, TargetPduValue}
use Rattle.iscsi_pdu.specs.SerialNumbers.{next, distance, IsBefore}
use Rattle.iscsi_pdu.specs.declared.serial_number.SerialNumber.{SerialNumber}
use Rattle.iscsi_pdu.specs.declared.residual.Residual.TheVariants.{Overflow, Underflow}
use Rattle.iscsi_pdu.specs.declared.initiator_header.InitiatorHeader.TheVariants as initiator
use Rattle.iscsi_pdu.specs.declared.target_header.TargetHeader.TheVariants as target
use Rattle.iscsi_pdu.specs.declared.task_attribute.TaskAttribute.TheVariants as attribute
use Rattle.iscsi_pdu.specs.declared.task_management.TaskManagementFunction.TheVariants as function
use Rattle.iscsi_pdu.specs.declared.stage.Stage.TheVariants as stage
use Rattle.iscsi_pdu.specs.declared.logout.LogoutReason.TheVariants as reason
use Rattle.iscsi_pdu.specs.declared.snack_type.SnackType.TheVariants as snack
use Rattle.iscsi_pdu.specs.declared.service_response.ServiceResponse.TheVariants as response
use Rattle.iscsi_pdu.specs.declared.scsi_status.ScsiStatus.TheVariants as status
use Rattle.iscsi_pdu.specs.declared.task_management_result.TaskManagementResult.TheVariants as result
use Rattle.iscsi_pdu.specs.declared.login_status.LoginStatus.TheVariants as login
use Rattle.iscsi_pdu.specs.declared.logout.LogoutResult.TheVariants as logout
use Rattle.iscsi_pdu.specs.declared.async_event.AsyncEvent.TheVariants as event
use Rattle.iscsi_pdu.specs.declared.reject_reason.RejectReason.TheVariants as reject

abbrev pub sn : ℕ → SerialNumber
sn n = record { number = n }

-- an immediate NOP-Out to unit 1 with four bytes
abbrev pub ping_request_row : List ℕ
ping_request_row =
    0x40 ∷ 0x80 ∷ 0 ∷ 0 ∷ 0 ∷ 0 ∷ 0 ∷ 4 ∷ 0 ∷ 1 ∷ 0 ∷ 0 ∷ 0 ∷ 0 ∷ 0 ∷ 0
    ∷ 0 ∷ 0 ∷ 0 ∷ 0x10 ∷ 0xFF ∷ 0xFF ∷ 0xFF ∷ 0xFF ∷ 0 ∷ 0 ∷ 0 ∷ 2 ∷ 0 ∷ 0 ∷ 0 ∷ 3
    ∷ 0 ∷ 0 ∷ 0 ∷ 0 ∷ 0 ∷ 0 ∷ 0 ∷ 0 ∷ 0 ∷ 0 ∷ 0 ∷ 0 ∷ 0 ∷ 0 ∷ 0 ∷ 0
    ∷ 0x70 ∷ 0x69 ∷ 0x6E ∷ 0x67 ∷ []

abbrev pub ping_request_pdu : InitiatorPduValue
ping_request_pdu = record {
  header = initiator.NopOut (record {
    immediate = true;
    lun = 0x1000000000000;
    initiator_task_tag = 0x10;
    target_transfer_tag = 0xFFFFFFFF;
    cmd_sn = sn 2;
    exp_stat_sn = sn 3;
  });
  extended_cdb = [];
  payload = 0x70 ∷ 0x69 ∷ 0x6E ∷ 0x67 ∷ [];
}

-- INQUIRY of 36 bytes, simple
abbrev pub inquiry_row : List ℕ
inquiry_row =
    1 ∷ 0xC1 ∷ 0 ∷ 0 ∷ 0 ∷ 0 ∷ 0 ∷ 0 ∷ 0 ∷ 0 ∷ 0 ∷ 0 ∷ 0 ∷ 0 ∷ 0 ∷ 0
    ∷ 0 ∷ 0 ∷ 0 ∷ 0x11 ∷ 0 ∷ 0 ∷ 0 ∷ 0x24 ∷ 0 ∷ 0 ∷ 0 ∷ 3 ∷ 0 ∷ 0 ∷ 0 ∷ 4
    ∷ 0x12 ∷ 0 ∷ 0 ∷ 0 ∷ 0x24 ∷ 0 ∷ 0 ∷ 0 ∷ 0 ∷ 0 ∷ 0 ∷ 0 ∷ 0 ∷ 0 ∷ 0 ∷ 0 ∷ []

abbrev pub inquiry_pdu : InitiatorPduValue
inquiry_pdu = record {
  header = initiator.ScsiCommand (record {
    immediate = false;
    is_final = true;
    reads = true;
    writes = false;
    task_attribute = attribute.Simple;
    lun = 0;
    initiator_task_tag = 0x11;
    expected_data_transfer_length = 36;
    cmd_sn = sn 3;
    exp_stat_sn = sn 4;
    cdb = 0x12 ∷ 0 ∷ 0 ∷ 0 ∷ 0x24 ∷ replicate 11 0;
  });
  extended_cdb = [];
  payload = [];
}

-- a CDB of 18 bytes: two of them in an AHS, with two bytes of padding; three bytes of immediate data, with one
abbrev pub long_cdb_row : List ℕ
long_cdb_row =
    1 ∷ 0xA0 ∷ 0 ∷ 0 ∷ 2 ∷ 0 ∷ 0 ∷ 3 ∷ 0 ∷ 0 ∷ 0 ∷ 0 ∷ 0 ∷ 0 ∷ 0 ∷ 0
    ∷ 0 ∷ 0 ∷ 0 ∷ 0x12 ∷ 0 ∷ 0 ∷ 2 ∷ 0 ∷ 0xFF ∷ 0xFF ∷ 0xFF ∷ 0xFF ∷ 0 ∷ 0 ∷ 0 ∷ 5
    ∷ 0x7F ∷ 0 ∷ 0 ∷ 0 ∷ 0 ∷ 0 ∷ 0 ∷ 0 ∷ 0 ∷ 0 ∷ 0 ∷ 0 ∷ 0 ∷ 0 ∷ 0 ∷ 0x0A
    ∷ 0 ∷ 3 ∷ 1 ∷ 0 ∷ 0x0B ∷ 0x0C ∷ 0 ∷ 0 ∷ 1 ∷ 2 ∷ 3 ∷ 0 ∷ []

abbrev pub long_cdb_pdu : InitiatorPduValue
long_cdb_pdu = record {
  header = initiator.ScsiCommand (record {
    immediate = false;
    is_final = true;
    reads = false;
    writes = true;
    task_attribute = attribute.Untagged;
    lun = 0;
    initiator_task_tag = 0x12;
    expected_data_transfer_length = 512;
    cmd_sn = sn 0xFFFFFFFF;
    exp_stat_sn = sn 5;
    cdb = 0x7F ∷ replicate 14 0 ++ 0x0A ∷ [];
  });
  extended_cdb = 0x0B ∷ 0x0C ∷ [];
  payload = 1 ∷ 2 ∷ 3 ∷ [];
}

-- an immediate LOGICAL UNIT RESET of unit 2
abbrev pub unit_reset_row : List ℕ
unit_reset_row =
    0x42 ∷ 0x85 ∷ 0 ∷ 0 ∷ 0 ∷ 0 ∷ 0 ∷ 0 ∷ 0 ∷ 2 ∷ 0 ∷ 0 ∷ 0 ∷ 0 ∷ 0 ∷ 0
    ∷ 0 ∷ 0 ∷ 0 ∷ 0x13 ∷ 0xFF ∷ 0xFF ∷ 0xFF ∷ 0xFF ∷ 0 ∷ 0 ∷ 0 ∷ 4 ∷ 0 ∷ 0 ∷ 0 ∷ 5
    ∷ 0 ∷ 0 ∷ 0 ∷ 3 ∷ 0 ∷ 0 ∷ 0 ∷ 0 ∷ 0 ∷ 0 ∷ 0 ∷ 0 ∷ 0 ∷ 0 ∷ 0 ∷ 0 ∷ []

abbrev pub unit_reset_pdu : InitiatorPduValue
unit_reset_pdu = record {
  header = initiator.TaskManagementRequest (record {
    immediate = true;
    function = function.LogicalUnitReset;
    lun = 0x2000000000000;
    initiator_task_tag = 0x13;
    referenced_task_tag = 0xFFFFFFFF;
    cmd_sn = sn 4;
    exp_stat_sn = sn 5;
    ref_cmd_sn = sn 3;
  });
  extended_cdb = [];
  payload = [];
}

-- a login from operational negotiation to full feature, by the ISID of an open-iscsi host
abbrev pub login_request_row : List ℕ
login_request_row =
    0x43 ∷ 0x87 ∷ 0 ∷ 0 ∷ 0 ∷ 0 ∷ 0 ∷ 0x10 ∷ 0 ∷ 2 ∷ 0x3D ∷ 0 ∷ 0 ∷ 1 ∷ 0 ∷ 0
    ∷ 0 ∷ 0 ∷ 0 ∷ 1 ∷ 0 ∷ 2 ∷ 0 ∷ 0 ∷ 0 ∷ 0 ∷ 0 ∷ 1 ∷ 0 ∷ 0 ∷ 0 ∷ 0
    ∷ 0 ∷ 0 ∷ 0 ∷ 0 ∷ 0 ∷ 0 ∷ 0 ∷ 0 ∷ 0 ∷ 0 ∷ 0 ∷ 0 ∷ 0 ∷ 0 ∷ 0 ∷ 0
    ∷ 0x49 ∷ 0x6E ∷ 0x69 ∷ 0x74 ∷ 0x69 ∷ 0x61 ∷ 0x74 ∷ 0x6F ∷ 0x72 ∷ 0x4E ∷ 0x61 ∷ 0x6D ∷ 0x65 ∷ 0x3D ∷ 0x61 ∷ 0 ∷ []

abbrev pub login_request_pdu : InitiatorPduValue
login_request_pdu = record {
  header = initiator.LoginRequest (record {
    transit = true;
    continues = false;
    current_stage = stage.LoginOperationalNegotiation;
    next_stage = stage.FullFeaturePhase;
    version_max = 0;
    version_min = 0;
    isid = 0x00023D000001;
    tsih = 0;
    initiator_task_tag = 1;
    cid = 2;
    cmd_sn = sn 1;
    exp_stat_sn = sn 0;
  });
  extended_cdb = [];
  payload = 0x49 ∷ 0x6E ∷ 0x69 ∷ 0x74 ∷ 0x69 ∷ 0x61 ∷ 0x74 ∷ 0x6F ∷ 0x72 ∷ 0x4E ∷ 0x61 ∷ 0x6D ∷ 0x65 ∷ 0x3D ∷ 0x61 ∷ 0 ∷ [];
}

-- the same login with another text: A=b
abbrev pub short_login_row : List ℕ
short_login_row =
    0x43 ∷ 0x87 ∷ 0 ∷ 0 ∷ 0 ∷ 0 ∷ 0 ∷ 4 ∷ 0 ∷ 2 ∷ 0x3D ∷ 0 ∷ 0 ∷ 1 ∷ 0 ∷ 0
    ∷ 0 ∷ 0 ∷ 0 ∷ 1 ∷ 0 ∷ 2 ∷ 0 ∷ 0 ∷ 0 ∷ 0 ∷ 0 ∷ 1 ∷ 0 ∷ 0 ∷ 0 ∷ 0
    ∷ 0 ∷ 0 ∷ 0 ∷ 0 ∷ 0 ∷ 0 ∷ 0 ∷ 0 ∷ 0 ∷ 0 ∷ 0 ∷ 0 ∷ 0 ∷ 0 ∷ 0 ∷ 0
    ∷ 0x41 ∷ 0x3D ∷ 0x62 ∷ 0 ∷ []

abbrev pub short_login_pdu : InitiatorPduValue
short_login_pdu = record login_request_pdu { payload = 0x41 ∷ 0x3D ∷ 0x62 ∷ 0 ∷ [] }

-- SendTargets=All
abbrev pub send_targets_row : List ℕ
send_targets_row =
    4 ∷ 0x80 ∷ 0 ∷ 0 ∷ 0 ∷ 0 ∷ 0 ∷ 0x10 ∷ 0 ∷ 0 ∷ 0 ∷ 0 ∷ 0 ∷ 0 ∷ 0 ∷ 0
    ∷ 0 ∷ 0 ∷ 0 ∷ 2 ∷ 0xFF ∷ 0xFF ∷ 0xFF ∷ 0xFF ∷ 0 ∷ 0 ∷ 0 ∷ 1 ∷ 0 ∷ 0 ∷ 0 ∷ 2
    ∷ 0 ∷ 0 ∷ 0 ∷ 0 ∷ 0 ∷ 0 ∷ 0 ∷ 0 ∷ 0 ∷ 0 ∷ 0 ∷ 0 ∷ 0 ∷ 0 ∷ 0 ∷ 0
    ∷ 0x53 ∷ 0x65 ∷ 0x6E ∷ 0x64 ∷ 0x54 ∷ 0x61 ∷ 0x72 ∷ 0x67 ∷ 0x65 ∷ 0x74 ∷ 0x73 ∷ 0x3D ∷ 0x41 ∷ 0x6C ∷ 0x6C ∷ 0 ∷ []

abbrev pub send_targets_pdu : InitiatorPduValue
send_targets_pdu = record {
  header = initiator.TextRequest (record {
    immediate = false;
    is_final = true;
    continues = false;
    lun = 0;
    initiator_task_tag = 2;
    target_transfer_tag = 0xFFFFFFFF;
    cmd_sn = sn 1;
    exp_stat_sn = sn 2;
  });
  extended_cdb = [];
  payload = 0x53 ∷ 0x65 ∷ 0x6E ∷ 0x64 ∷ 0x54 ∷ 0x61 ∷ 0x72 ∷ 0x67 ∷ 0x65 ∷ 0x74 ∷ 0x73 ∷ 0x3D ∷ 0x41 ∷ 0x6C ∷ 0x6C ∷ 0 ∷ [];
}

-- five bytes of a write, with three of padding
abbrev pub data_out_row : List ℕ
data_out_row =
    5 ∷ 0x80 ∷ 0 ∷ 0 ∷ 0 ∷ 0 ∷ 0 ∷ 5 ∷ 0 ∷ 1 ∷ 0 ∷ 0 ∷ 0 ∷ 0 ∷ 0 ∷ 0
    ∷ 0 ∷ 0 ∷ 0 ∷ 0x14 ∷ 0 ∷ 0 ∷ 0 ∷ 7 ∷ 0 ∷ 0 ∷ 0 ∷ 0 ∷ 0 ∷ 0 ∷ 0 ∷ 9
    ∷ 0 ∷ 0 ∷ 0 ∷ 0 ∷ 0 ∷ 0 ∷ 0 ∷ 2 ∷ 0 ∷ 0 ∷ 0x10 ∷ 0 ∷ 0 ∷ 0 ∷ 0 ∷ 0
    ∷ 1 ∷ 2 ∷ 3 ∷ 4 ∷ 5 ∷ 0 ∷ 0 ∷ 0 ∷ []

abbrev pub data_out_pdu : InitiatorPduValue
data_out_pdu = record {
  header = initiator.DataOut (record {
    is_final = true;
    lun = 0x1000000000000;
    initiator_task_tag = 0x14;
    target_transfer_tag = 7;
    exp_stat_sn = sn 9;
    data_sn = sn 2;
    buffer_offset = 4096;
  });
  extended_cdb = [];
  payload = 1 ∷ 2 ∷ 3 ∷ 4 ∷ 5 ∷ [];
}

-- an immediate logout that closes connection 2
abbrev pub logout_request_row : List ℕ
logout_request_row =
    0x46 ∷ 0x81 ∷ 0 ∷ 0 ∷ 0 ∷ 0 ∷ 0 ∷ 0 ∷ 0 ∷ 0 ∷ 0 ∷ 0 ∷ 0 ∷ 0 ∷ 0 ∷ 0
    ∷ 0 ∷ 0 ∷ 0 ∷ 0x15 ∷ 0 ∷ 2 ∷ 0 ∷ 0 ∷ 0 ∷ 0 ∷ 0 ∷ 6 ∷ 0 ∷ 0 ∷ 0 ∷ 7
    ∷ 0 ∷ 0 ∷ 0 ∷ 0 ∷ 0 ∷ 0 ∷ 0 ∷ 0 ∷ 0 ∷ 0 ∷ 0 ∷ 0 ∷ 0 ∷ 0 ∷ 0 ∷ 0 ∷ []

abbrev pub logout_request_pdu : InitiatorPduValue
logout_request_pdu = record {
  header = initiator.LogoutRequest (record {
    immediate = true;
    reason = reason.CloseTheConnection;
    initiator_task_tag = 0x15;
    cid = 2;
    cmd_sn = sn 6;
    exp_stat_sn = sn 7;
  });
  extended_cdb = [];
  payload = [];
}

-- a SNACK for two statuses from the third on
abbrev pub snack_row : List ℕ
snack_row =
    0x10 ∷ 0x81 ∷ 0 ∷ 0 ∷ 0 ∷ 0 ∷ 0 ∷ 0 ∷ 0 ∷ 0 ∷ 0 ∷ 0 ∷ 0 ∷ 0 ∷ 0 ∷ 0
    ∷ 0xFF ∷ 0xFF ∷ 0xFF ∷ 0xFF ∷ 0xFF ∷ 0xFF ∷ 0xFF ∷ 0xFF ∷ 0 ∷ 0 ∷ 0 ∷ 0 ∷ 0 ∷ 0 ∷ 0 ∷ 3
    ∷ 0 ∷ 0 ∷ 0 ∷ 0 ∷ 0 ∷ 0 ∷ 0 ∷ 0 ∷ 0 ∷ 0 ∷ 0 ∷ 3 ∷ 0 ∷ 0 ∷ 0 ∷ 2 ∷ []

abbrev pub snack_pdu : InitiatorPduValue
snack_pdu = record {
  header = initiator.SnackRequest (record {
    snack_type = snack.Status;
    lun = 0;
    initiator_task_tag = 0xFFFFFFFF;
    target_transfer_tag = 0xFFFFFFFF;
    exp_stat_sn = sn 3;
    beg_run = 3;
    run_length = 2;
  });
  extended_cdb = [];
  payload = [];
}

-- an opcode of a vendor
abbrev pub vendor_row : List ℕ
vendor_row =
    0x1C ∷ 0x80 ∷ 0 ∷ 0 ∷ 0 ∷ 0 ∷ 0 ∷ 0 ∷ 0 ∷ 0 ∷ 0 ∷ 0 ∷ 0 ∷ 0 ∷ 0 ∷ 0
    ∷ 0 ∷ 0 ∷ 0 ∷ 0x16 ∷ 0 ∷ 0 ∷ 0 ∷ 0 ∷ 0 ∷ 0 ∷ 0 ∷ 8 ∷ 0 ∷ 0 ∷ 0 ∷ 0
    ∷ 0 ∷ 0 ∷ 0 ∷ 0 ∷ 0 ∷ 0 ∷ 0 ∷ 0 ∷ 0 ∷ 0 ∷ 0 ∷ 0 ∷ 0 ∷ 0 ∷ 0 ∷ 0 ∷ []

abbrev pub vendor_pdu : InitiatorPduValue
vendor_pdu = record {
  header = initiator.Unknown (record {
    immediate = false;
    opcode = 0x1C;
    initiator_task_tag = 0x16;
    cmd_sn = sn 8;
  });
  extended_cdb = [];
  payload = [];
}

-- a NOP-In of the target's own
abbrev pub ping_of_target_row : List ℕ
ping_of_target_row =
    0x20 ∷ 0x80 ∷ 0 ∷ 0 ∷ 0 ∷ 0 ∷ 0 ∷ 0 ∷ 0 ∷ 0 ∷ 0 ∷ 0 ∷ 0 ∷ 0 ∷ 0 ∷ 0
    ∷ 0xFF ∷ 0xFF ∷ 0xFF ∷ 0xFF ∷ 0 ∷ 0 ∷ 0 ∷ 0x21 ∷ 0 ∷ 0 ∷ 0 ∷ 3 ∷ 0 ∷ 0 ∷ 0 ∷ 2
    ∷ 0 ∷ 0 ∷ 0 ∷ 0x21 ∷ 0 ∷ 0 ∷ 0 ∷ 0 ∷ 0 ∷ 0 ∷ 0 ∷ 0 ∷ 0 ∷ 0 ∷ 0 ∷ 0 ∷ []

abbrev pub ping_of_target_pdu : TargetPduValue
ping_of_target_pdu = record {
  header = target.NopIn (record {
    lun = 0;
    initiator_task_tag = 0xFFFFFFFF;
    target_transfer_tag = 0x21;
    stat_sn = sn 3;
    exp_cmd_sn = sn 2;
    max_cmd_sn = sn 33;
  });
  payload = [];
}

-- CHECK CONDITION, with two bytes of sense data behind their length, and all 36 bytes left
abbrev pub check_condition_row : List ℕ
check_condition_row =
    0x21 ∷ 0x82 ∷ 0 ∷ 2 ∷ 0 ∷ 0 ∷ 0 ∷ 4 ∷ 0 ∷ 0 ∷ 0 ∷ 0 ∷ 0 ∷ 0 ∷ 0 ∷ 0
    ∷ 0 ∷ 0 ∷ 0 ∷ 0x11 ∷ 0 ∷ 0 ∷ 0 ∷ 0 ∷ 0 ∷ 0 ∷ 0 ∷ 4 ∷ 0 ∷ 0 ∷ 0 ∷ 4
    ∷ 0 ∷ 0 ∷ 0 ∷ 0x23 ∷ 0 ∷ 0 ∷ 0 ∷ 0 ∷ 0 ∷ 0 ∷ 0 ∷ 0 ∷ 0 ∷ 0 ∷ 0 ∷ 0x24
    ∷ 0 ∷ 2 ∷ 0x70 ∷ 0 ∷ []

abbrev pub check_condition_pdu : TargetPduValue
check_condition_pdu = record {
  header = target.ScsiResponse (record {
    response = response.CommandCompletedAtTarget;
    status = status.CheckCondition;
    initiator_task_tag = 0x11;
    stat_sn = sn 4;
    exp_cmd_sn = sn 4;
    max_cmd_sn = sn 35;
    exp_data_sn = sn 0;
    residual = Underflow 36;
  });
  payload = 0 ∷ 2 ∷ 0x70 ∷ 0 ∷ [];
}

-- a task management function for a unit that isn't there
abbrev pub no_such_unit_row : List ℕ
no_such_unit_row =
    0x22 ∷ 0x80 ∷ 2 ∷ 0 ∷ 0 ∷ 0 ∷ 0 ∷ 0 ∷ 0 ∷ 0 ∷ 0 ∷ 0 ∷ 0 ∷ 0 ∷ 0 ∷ 0
    ∷ 0 ∷ 0 ∷ 0 ∷ 0x13 ∷ 0 ∷ 0 ∷ 0 ∷ 0 ∷ 0 ∷ 0 ∷ 0 ∷ 5 ∷ 0 ∷ 0 ∷ 0 ∷ 4
    ∷ 0 ∷ 0 ∷ 0 ∷ 0x23 ∷ 0 ∷ 0 ∷ 0 ∷ 0 ∷ 0 ∷ 0 ∷ 0 ∷ 0 ∷ 0 ∷ 0 ∷ 0 ∷ 0 ∷ []

abbrev pub no_such_unit_pdu : TargetPduValue
no_such_unit_pdu = record {
  header = target.TaskManagementResponse (record {
    response = result.LunDoesNotExist;
    initiator_task_tag = 0x13;
    stat_sn = sn 5;
    exp_cmd_sn = sn 4;
    max_cmd_sn = sn 35;
  });
  payload = [];
}

-- a login that is refused
abbrev pub not_let_in_row : List ℕ
not_let_in_row =
    0x23 ∷ 4 ∷ 0 ∷ 0 ∷ 0 ∷ 0 ∷ 0 ∷ 0 ∷ 0 ∷ 2 ∷ 0x3D ∷ 0 ∷ 0 ∷ 1 ∷ 0 ∷ 0
    ∷ 0 ∷ 0 ∷ 0 ∷ 1 ∷ 0 ∷ 0 ∷ 0 ∷ 0 ∷ 0 ∷ 0 ∷ 0 ∷ 0 ∷ 0 ∷ 0 ∷ 0 ∷ 1
    ∷ 0 ∷ 0 ∷ 0 ∷ 0x20 ∷ 2 ∷ 2 ∷ 0 ∷ 0 ∷ 0 ∷ 0 ∷ 0 ∷ 0 ∷ 0 ∷ 0 ∷ 0 ∷ 0 ∷ []

abbrev pub not_let_in_pdu : TargetPduValue
not_let_in_pdu = record {
  header = target.LoginResponse (record {
    transit = false;
    continues = false;
    current_stage = stage.LoginOperationalNegotiation;
    next_stage = stage.SecurityNegotiation;
    version_max = 0;
    version_active = 0;
    isid = 0x00023D000001;
    tsih = 0;
    initiator_task_tag = 1;
    stat_sn = sn 0;
    exp_cmd_sn = sn 1;
    max_cmd_sn = sn 32;
    status = login.AuthorizationFailure;
  });
  payload = [];
}

-- the answer that lets a login in, as session 7
abbrev pub let_in_row : List ℕ
let_in_row =
    0x23 ∷ 0x87 ∷ 0 ∷ 0 ∷ 0 ∷ 0 ∷ 0 ∷ 0 ∷ 0 ∷ 2 ∷ 0x3D ∷ 0 ∷ 0 ∷ 1 ∷ 0 ∷ 7
    ∷ 0 ∷ 0 ∷ 0 ∷ 1 ∷ 0 ∷ 0 ∷ 0 ∷ 0 ∷ 0 ∷ 0 ∷ 0 ∷ 9 ∷ 0 ∷ 0 ∷ 0 ∷ 1
    ∷ 0 ∷ 0 ∷ 0 ∷ 0x20 ∷ 0 ∷ 0 ∷ 0 ∷ 0 ∷ 0 ∷ 0 ∷ 0 ∷ 0 ∷ 0 ∷ 0 ∷ 0 ∷ 0 ∷ []

abbrev pub let_in_pdu : TargetPduValue
let_in_pdu = record {
  header = target.LoginResponse (record {
    transit = true;
    continues = false;
    current_stage = stage.LoginOperationalNegotiation;
    next_stage = stage.FullFeaturePhase;
    version_max = 0;
    version_active = 0;
    isid = 0x00023D000001;
    tsih = 7;
    initiator_task_tag = 1;
    stat_sn = sn 9;
    exp_cmd_sn = sn 1;
    max_cmd_sn = sn 32;
    status = login.Success;
  });
  payload = [];
}

-- a part of an answer, asked on by a tag
abbrev pub part_of_text_row : List ℕ
part_of_text_row =
    0x24 ∷ 0x40 ∷ 0 ∷ 0 ∷ 0 ∷ 0 ∷ 0 ∷ 2 ∷ 0 ∷ 0 ∷ 0 ∷ 0 ∷ 0 ∷ 0 ∷ 0 ∷ 0
    ∷ 0 ∷ 0 ∷ 0 ∷ 2 ∷ 0 ∷ 0 ∷ 0 ∷ 0x22 ∷ 0 ∷ 0 ∷ 0 ∷ 2 ∷ 0 ∷ 0 ∷ 0 ∷ 2
    ∷ 0 ∷ 0 ∷ 0 ∷ 0x21 ∷ 0 ∷ 0 ∷ 0 ∷ 0 ∷ 0 ∷ 0 ∷ 0 ∷ 0 ∷ 0 ∷ 0 ∷ 0 ∷ 0
    ∷ 0x61 ∷ 0x3D ∷ 0 ∷ 0 ∷ []

abbrev pub part_of_text_pdu : TargetPduValue
part_of_text_pdu = record {
  header = target.TextResponse (record {
    is_final = false;
    continues = true;
    lun = 0;
    initiator_task_tag = 2;
    target_transfer_tag = 0x22;
    stat_sn = sn 2;
    exp_cmd_sn = sn 2;
    max_cmd_sn = sn 33;
  });
  payload = 0x61 ∷ 0x3D ∷ [];
}

-- data of a read that goes on
abbrev pub first_data_row : List ℕ
first_data_row =
    0x25 ∷ 0 ∷ 0 ∷ 0 ∷ 0 ∷ 0 ∷ 0 ∷ 4 ∷ 0 ∷ 0 ∷ 0 ∷ 0 ∷ 0 ∷ 0 ∷ 0 ∷ 0
    ∷ 0 ∷ 0 ∷ 0 ∷ 0x17 ∷ 0xFF ∷ 0xFF ∷ 0xFF ∷ 0xFF ∷ 0 ∷ 0 ∷ 0 ∷ 0 ∷ 0 ∷ 0 ∷ 0 ∷ 5
    ∷ 0 ∷ 0 ∷ 0 ∷ 0x24 ∷ 0 ∷ 0 ∷ 0 ∷ 1 ∷ 0 ∷ 0 ∷ 0 ∷ 4 ∷ 0 ∷ 0 ∷ 0 ∷ 0
    ∷ 5 ∷ 6 ∷ 7 ∷ 8 ∷ []

abbrev pub first_data_pdu : TargetPduValue
first_data_pdu = record {
  header = target.DataIn (record {
    is_final = false;
    initiator_task_tag = 0x17;
    completion = None;
    exp_cmd_sn = sn 5;
    max_cmd_sn = sn 36;
    data_sn = sn 1;
    buffer_offset = 4;
  });
  payload = 5 ∷ 6 ∷ 7 ∷ 8 ∷ [];
}

-- the last data of a read, with GOOD and two bytes too many
abbrev pub last_data_row : List ℕ
last_data_row =
    0x25 ∷ 0x85 ∷ 0 ∷ 0 ∷ 0 ∷ 0 ∷ 0 ∷ 1 ∷ 0 ∷ 0 ∷ 0 ∷ 0 ∷ 0 ∷ 0 ∷ 0 ∷ 0
    ∷ 0 ∷ 0 ∷ 0 ∷ 0x17 ∷ 0xFF ∷ 0xFF ∷ 0xFF ∷ 0xFF ∷ 0 ∷ 0 ∷ 0 ∷ 6 ∷ 0 ∷ 0 ∷ 0 ∷ 5
    ∷ 0 ∷ 0 ∷ 0 ∷ 0x24 ∷ 0 ∷ 0 ∷ 0 ∷ 2 ∷ 0 ∷ 0 ∷ 0 ∷ 8 ∷ 0 ∷ 0 ∷ 0 ∷ 2
    ∷ 9 ∷ 0 ∷ 0 ∷ 0 ∷ []

abbrev pub last_data_pdu : TargetPduValue
last_data_pdu = record {
  header = target.DataIn (record {
    is_final = true;
    initiator_task_tag = 0x17;
    completion = Some (record {
      status = status.Good;
      stat_sn = sn 6;
      residual = Overflow 2;
    });
    exp_cmd_sn = sn 5;
    max_cmd_sn = sn 36;
    data_sn = sn 2;
    buffer_offset = 8;
  });
  payload = 9 ∷ [];
}

-- a logout of a connection that isn't there
abbrev pub no_such_connection_row : List ℕ
no_such_connection_row =
    0x26 ∷ 0x80 ∷ 1 ∷ 0 ∷ 0 ∷ 0 ∷ 0 ∷ 0 ∷ 0 ∷ 0 ∷ 0 ∷ 0 ∷ 0 ∷ 0 ∷ 0 ∷ 0
    ∷ 0 ∷ 0 ∷ 0 ∷ 0x15 ∷ 0 ∷ 0 ∷ 0 ∷ 0 ∷ 0 ∷ 0 ∷ 0 ∷ 7 ∷ 0 ∷ 0 ∷ 0 ∷ 7
    ∷ 0 ∷ 0 ∷ 0 ∷ 0x26 ∷ 0 ∷ 0 ∷ 0 ∷ 0 ∷ 0 ∷ 2 ∷ 0 ∷ 3 ∷ 0 ∷ 0 ∷ 0 ∷ 0 ∷ []

abbrev pub no_such_connection_pdu : TargetPduValue
no_such_connection_pdu = record {
  header = target.LogoutResponse (record {
    response = logout.CidNotFound;
    initiator_task_tag = 0x15;
    stat_sn = sn 7;
    exp_cmd_sn = sn 7;
    max_cmd_sn = sn 38;
    time2wait = 2;
    time2retain = 3;
  });
  payload = [];
}

-- an R2T for 512 bytes from 4,096 on
abbrev pub r2t_row : List ℕ
r2t_row =
    0x31 ∷ 0x80 ∷ 0 ∷ 0 ∷ 0 ∷ 0 ∷ 0 ∷ 0 ∷ 0 ∷ 1 ∷ 0 ∷ 0 ∷ 0 ∷ 0 ∷ 0 ∷ 0
    ∷ 0 ∷ 0 ∷ 0 ∷ 0x14 ∷ 0 ∷ 0 ∷ 0 ∷ 7 ∷ 0 ∷ 0 ∷ 0 ∷ 9 ∷ 0 ∷ 0 ∷ 0 ∷ 5
    ∷ 0 ∷ 0 ∷ 0 ∷ 0x24 ∷ 0 ∷ 0 ∷ 0 ∷ 1 ∷ 0 ∷ 0 ∷ 0x10 ∷ 0 ∷ 0 ∷ 0 ∷ 2 ∷ 0 ∷ []

abbrev pub r2t_pdu : TargetPduValue
r2t_pdu = record {
  header = target.ReadyToTransfer (record {
    lun = 0x1000000000000;
    initiator_task_tag = 0x14;
    target_transfer_tag = 7;
    stat_sn = sn 9;
    exp_cmd_sn = sn 5;
    max_cmd_sn = sn 36;
    r2t_sn = sn 1;
    buffer_offset = 4096;
    desired_data_transfer_length = 512;
  });
  payload = [];
}

-- a logout asked for, within five seconds
abbrev pub asks_for_logout_row : List ℕ
asks_for_logout_row =
    0x32 ∷ 0x80 ∷ 0 ∷ 0 ∷ 0 ∷ 0 ∷ 0 ∷ 0 ∷ 0 ∷ 0 ∷ 0 ∷ 0 ∷ 0 ∷ 0 ∷ 0 ∷ 0
    ∷ 0xFF ∷ 0xFF ∷ 0xFF ∷ 0xFF ∷ 0 ∷ 0 ∷ 0 ∷ 0 ∷ 0 ∷ 0 ∷ 0 ∷ 8 ∷ 0 ∷ 0 ∷ 0 ∷ 5
    ∷ 0 ∷ 0 ∷ 0 ∷ 0x24 ∷ 1 ∷ 0 ∷ 0 ∷ 0 ∷ 0 ∷ 0 ∷ 0 ∷ 5 ∷ 0 ∷ 0 ∷ 0 ∷ 0 ∷ []

abbrev pub asks_for_logout_pdu : TargetPduValue
asks_for_logout_pdu = record {
  header = target.AsyncMessage (record {
    lun = 0;
    stat_sn = sn 8;
    exp_cmd_sn = sn 5;
    max_cmd_sn = sn 36;
    event = event.LogoutRequested;
    vendor_code = 0;
    parameter_1 = 0;
    parameter_2 = 0;
    parameter_3 = 5;
  });
  payload = [];
}

-- a Reject of a PDU whose field is invalid
abbrev pub rejected_row : List ℕ
rejected_row =
    0x3F ∷ 0x80 ∷ 9 ∷ 0 ∷ 0 ∷ 0 ∷ 0 ∷ 4 ∷ 0 ∷ 0 ∷ 0 ∷ 0 ∷ 0 ∷ 0 ∷ 0 ∷ 0
    ∷ 0xFF ∷ 0xFF ∷ 0xFF ∷ 0xFF ∷ 0 ∷ 0 ∷ 0 ∷ 0 ∷ 0 ∷ 0 ∷ 0 ∷ 9 ∷ 0 ∷ 0 ∷ 0 ∷ 5
    ∷ 0 ∷ 0 ∷ 0 ∷ 0x24 ∷ 0 ∷ 0 ∷ 0 ∷ 0 ∷ 0 ∷ 0 ∷ 0 ∷ 0 ∷ 0 ∷ 0 ∷ 0 ∷ 0
    ∷ 5 ∷ 0x80 ∷ 0 ∷ 0 ∷ []

abbrev pub rejected_pdu : TargetPduValue
rejected_pdu = record {
  header = target.Reject (record {
    reason = reject.InvalidPduField;
    stat_sn = sn 9;
    exp_cmd_sn = sn 5;
    max_cmd_sn = sn 36;
  });
  payload = 5 ∷ 0x80 ∷ 0 ∷ 0 ∷ [];
}

abbrev pub Holds : Bool → Type 0 → Type 0
Holds true A = A
Holds false A = ¬ A

-- two numbers: the one after the first, how far the second is from the first, whether it comes behind it, and whether the first is one of
-- 32 from the second on
abbrev pub AreRoundTheCircle : (first second after steps : ℕ) → (is_before is_within : Bool) → Type 0
AreRoundTheCircle first second after steps is_before is_within =
    (next (sn first) ≡ sn after) × (distance (sn first) (sn second) ≡ steps)
    × Holds is_before (IsBefore (sn first) (sn second)) × Holds is_within (distance (sn second) (sn first) < 32)

-- round the circle of RFC 1982, with 32 bits
pub record NumbersRoundTheCircle : Type 0 where
  pub itself : AreRoundTheCircle 0 0 1 0 false true
  pub one_on : AreRoundTheCircle 0 1 1 1 true false
  pub one_back : AreRoundTheCircle 1 0 2 0xFFFFFFFF false true
  pub over_the_end : AreRoundTheCircle 0xFFFFFFFF 0 0 1 true false
  pub back_over_the_end : AreRoundTheCircle 0 0xFFFFFFFF 1 0xFFFFFFFF false true
  pub last_of_32 : AreRoundTheCircle 0x1E 0xFFFFFFFF 0x1F 0xFFFFFFE1 false true
  pub behind_32 : AreRoundTheCircle 0x1F 0xFFFFFFFF 0x20 0xFFFFFFE0 false false
  pub near_the_end : AreRoundTheCircle 0xFFFFFFE0 0xFFFFFFE0 0xFFFFFFE1 0 false true
  pub less_than_half : AreRoundTheCircle 0 0x7FFFFFFF 1 0x7FFFFFFF true false
  pub half : AreRoundTheCircle 0 0x80000000 1 0x80000000 false false
  pub half_back : AreRoundTheCircle 0x80000000 0 0x80000001 0x80000000 false false
  pub less_than_half_on : AreRoundTheCircle 0x7FFFFFFF 0xFFFFFFFE 0x80000000 0x7FFFFFFF true false

-- Status-Class and Status-Detail of those that no login of this target comes to
pub record StatusesOfNoLogin : Type 0 where
  pub moved_for_a_time : login_status_code login.TargetMovedTemporarily ≡ 0x0101
  pub moved_for_good : login_status_code login.TargetMovedPermanently ≡ 0x0102
  pub removed : login_status_code login.TargetRemoved ≡ 0x0204
  pub not_in_the_session : login_status_code login.CannotIncludeInSession ≡ 0x0208
  pub unavailable : login_status_code login.ServiceUnavailable ≡ 0x0301
  -- and of one by which the target itself fails
  pub failed : login_status_code login.TargetError ≡ 0x0300
