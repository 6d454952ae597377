-- Answers of one PDU. n holds the sequence numbers that stand in it.
use Rattle.std.specs.Prelude.{ℕ, nat_lt, not, ◌&&◌, Bool, List, [], length, take, if◌then◌else◌}
use Rattle.iscsi_pdu.specs.Pdus.{TargetPduValue}
use Rattle.iscsi_pdu.specs.declared.async_event.AsyncEvent.TheVariants.{LogoutRequested}
use Rattle.iscsi_pdu.specs.declared.target_header.TargetHeader.{TargetHeader}
use Rattle.iscsi_pdu.specs.declared.target_header.TargetHeader.TheVariants as header
use Rattle.iscsi_pdu.specs.declared.task_management_result.TaskManagementResult.{TaskManagementResult}
use Rattle.iscsi_pdu.specs.declared.logout.LogoutResult.{LogoutResult}
use Rattle.iscsi_pdu.specs.declared.reject_reason.RejectReason.{RejectReason}
use Rattle.iscsi_pdu.specs.declared.residual.Residual.TheVariants.{Exact}
use Rattle.iscsi_pdu.specs.declared.scsi_status.ScsiStatus.TheVariants.{Good}
use Rattle.iscsi_pdu.specs.declared.service_response.ServiceResponse.TheVariants.{TargetFailure}
use Rattle.iscsi_answers.specs.declared.sequence.SequenceNumbers.{SequenceNumbers}

abbrev pub pdu : TargetHeader → (payload : List ℕ) → TargetPduValue
pdu h payload = record { header = h; payload = payload }

-- a tag that names nothing
abbrev pub reserved_tag : ℕ
reserved_tag = 0xFFFFFFFF

-- NOP-In, with no LUN
abbrev pub nop : SequenceNumbers → (tag transfer_tag : ℕ) → (ping : List ℕ) → TargetPduValue
nop n tag transfer_tag ping = pdu (header.NopIn (record {
  lun = 0;
  initiator_task_tag = tag;
  target_transfer_tag = transfer_tag;
  stat_sn = n.stat_sn;
  exp_cmd_sn = n.exp_cmd_sn;
  max_cmd_sn = n.max_cmd_sn;
})) ping

-- to a NOP-Out: what it has, as much of it as the initiator takes
abbrev pub nop_answer : SequenceNumbers → (most tag : ℕ) → (ping : List ℕ) → TargetPduValue
nop_answer n most tag ping = nop n tag reserved_tag (take most ping)

-- the target's own ping
abbrev pub ping : SequenceNumbers → (transfer_tag : ℕ) → TargetPduValue
ping n transfer_tag = nop n reserved_tag transfer_tag []

-- a logout is asked for, within so many seconds
abbrev pub leave_request : SequenceNumbers → (seconds : ℕ) → TargetPduValue
leave_request n seconds = pdu (header.AsyncMessage (record {
  lun = 0;
  stat_sn = n.stat_sn;
  exp_cmd_sn = n.exp_cmd_sn;
  max_cmd_sn = n.max_cmd_sn;
  event = LogoutRequested;
  vendor_code = 0;
  parameter_1 = 0;
  parameter_2 = 0;
  parameter_3 = seconds;
})) []

-- to a command that was carried out, of which something can't be kept (RFC 7143, "SCSI Response"): there is no status then and no residual, and
-- the fields for them are 0
abbrev pub target_failure : SequenceNumbers → (tag : ℕ) → TargetPduValue
target_failure n tag = pdu (header.ScsiResponse (record {
  response = TargetFailure;
  status = Good;
  initiator_task_tag = tag;
  stat_sn = n.stat_sn;
  exp_cmd_sn = n.exp_cmd_sn;
  max_cmd_sn = n.max_cmd_sn;
  exp_data_sn = record { number = 0 };
  residual = Exact;
})) []

abbrev pub task_management_answer : SequenceNumbers → (tag : ℕ) → TaskManagementResult → TargetPduValue
task_management_answer n tag result = pdu (header.TaskManagementResponse (record {
  response = result;
  initiator_task_tag = tag;
  stat_sn = n.stat_sn;
  exp_cmd_sn = n.exp_cmd_sn;
  max_cmd_sn = n.max_cmd_sn;
})) []

-- with nothing to wait for and nothing kept
abbrev pub logout_answer : SequenceNumbers → (tag : ℕ) → LogoutResult → TargetPduValue
logout_answer n tag result = pdu (header.LogoutResponse (record {
  response = result;
  initiator_task_tag = tag;
  stat_sn = n.stat_sn;
  exp_cmd_sn = n.exp_cmd_sn;
  max_cmd_sn = n.max_cmd_sn;
  time2wait = 0;
  time2retain = 0;
})) []

-- with the header that was rejected
abbrev pub rejection : SequenceNumbers → RejectReason → (rejected : List ℕ) → TargetPduValue
rejection n reason rejected = pdu (header.Reject (record {
  reason = reason;
  stat_sn = n.stat_sn;
  exp_cmd_sn = n.exp_cmd_sn;
  max_cmd_sn = n.max_cmd_sn;
})) rejected

-- a text as far as the initiator takes it at once; the operation is at its end where the initiator asks for that and nothing is
-- left (RFC 7143, "Text Response")
abbrev pub is_text_left : (most : ℕ) → (text : List ℕ) → Bool
is_text_left most text = nat_lt most (length text)

abbrev pub is_text_final : (most : ℕ) → (final : Bool) → (text : List ℕ) → Bool
is_text_final most final text = final && not (is_text_left most text)

abbrev pub text_answer : SequenceNumbers → (most tag transfer_tag : ℕ) → (final : Bool) → (text : List ℕ) → TargetPduValue
text_answer n most tag transfer_tag final text = pdu (header.TextResponse (record {
  is_final = is_text_final most final text;
  continues = is_text_left most text;
  lun = 0;
  initiator_task_tag = tag;
  target_transfer_tag = if is_text_final most final text then reserved_tag else transfer_tag;
  stat_sn = n.stat_sn;
  exp_cmd_sn = n.exp_cmd_sn;
  max_cmd_sn = n.max_cmd_sn;
})) (take most text)
