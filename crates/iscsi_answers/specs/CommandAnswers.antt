-- What answers a command (RFC 7143, "SCSI Response", "SCSI Data-In", "Residual Count").
use Rattle.std.specs.Prelude.{ℕ, ◌-◌, nat_lt, not, ◌&&◌, Bool, true, false, List, [], ◌∷◌, ◌++◌, length, take, Option, Some, None, if◌then◌else◌}
use Rattle.byteorder.specs.Endian.{big_bytes}
use Rattle.scsi_sense.specs.declared.sense.Sense.{Sense}
use Rattle.scsi_sense.specs.declared.status.Status.{Status}
use Rattle.scsi_sense.specs.declared.status.Status.TheVariants as status
use Rattle.scsi_sense.specs.FixedSense.{fixed_sense}
use Rattle.iscsi_pdu.specs.Pdus.{TargetPduValue}
use Rattle.iscsi_pdu.specs.declared.completion.Completion.{Completion}
use Rattle.iscsi_pdu.specs.declared.residual.Residual.{Residual}
use Rattle.iscsi_pdu.specs.declared.residual.Residual.TheVariants.{Exact, Overflow, Underflow}
use Rattle.iscsi_pdu.specs.declared.scsi_command.ScsiCommand.{ScsiCommand}
use Rattle.iscsi_pdu.specs.declared.scsi_status.ScsiStatus.{ScsiStatus}
use Rattle.iscsi_pdu.specs.declared.scsi_status.ScsiStatus.TheVariants as scsi
use Rattle.iscsi_pdu.specs.declared.service_response.ServiceResponse.TheVariants.{CommandCompletedAtTarget}
use Rattle.iscsi_pdu.specs.declared.target_header.TargetHeader.TheVariants as header
use Rattle.iscsi_answers.specs.declared.command_answer.AnsweredCommand.{AnsweredCommand}
use Rattle.iscsi_answers.specs.declared.data_in.Transfer.{Transfer}
use Rattle.iscsi_answers.specs.declared.limits.TransferLimits.{TransferLimits}
use Rattle.iscsi_answers.specs.declared.sequence.SequenceNumbers.{SequenceNumbers}
use Rattle.iscsi_answers.specs.Single.{pdu}
use Rattle.iscsi_answers.specs.DataIns.{data_ins}

-- what an answer takes from its command, of whose data so many bytes were handed over
abbrev pub answered_command : ScsiCommand → (handed_over : ℕ) → AnsweredCommand
answered_command command handed_over = record {
  initiator_task_tag = command.initiator_task_tag;
  reads = command.reads;
  writes = command.writes;
  expected_data_transfer_length = command.expected_data_transfer_length;
  handed_over = handed_over;
}

-- a status as its PDU has it
abbrev pub told_status : Status → ScsiStatus
told_status status.Good = scsi.Good
told_status status.CheckCondition = scsi.CheckCondition
told_status status.Busy = scsi.Busy
told_status status.ReservationConflict = scsi.ReservationConflict

-- the data that go to the initiator: with R alone, and as many as it expects
abbrev pub sent : AnsweredCommand → (bytes : List ℕ) → List ℕ
sent c bytes = if c.reads && not c.writes then take c.expected_data_transfer_length bytes else []

-- how many bytes there were to transfer: of a write those that were handed over, else those that the unit gave
abbrev pub transferable_of : AnsweredCommand → (given : ℕ) → ℕ
transferable_of c given = if c.writes then c.handed_over else given

abbrev pub transferable : AnsweredCommand → (bytes : List ℕ) → ℕ
transferable c bytes = transferable_of c (length bytes)

-- what the initiator expects, beside them
abbrev pub residual_between : (expected transferable : ℕ) → Residual
residual_between expected transferable =
    if nat_lt transferable expected then Underflow (expected - transferable)
    else if nat_lt expected transferable then Overflow (transferable - expected)
    else Exact

abbrev pub residual_of : AnsweredCommand → (bytes : List ℕ) → Residual
residual_of c bytes = residual_between c.expected_data_transfer_length (transferable c bytes)

-- sense data, behind two bytes that tell their length
abbrev pub sense_segment : Option Sense → List ℕ
sense_segment None = []
sense_segment (Some sense) = big_bytes 2 18 ++ fixed_sense sense

abbrev pub is_good : Status → Bool
is_good status.Good = true
is_good status.CheckCondition = false
is_good status.Busy = false
is_good status.ReservationConflict = false

-- GOOD goes with the last data, where there are some
abbrev pub goes_with_data : Status → (sent : List ℕ) → Bool
goes_with_data s bytes = is_good s && nat_lt 0 (length bytes)

abbrev pub ending : SequenceNumbers → Status → Residual → Completion
ending n s residual = record { status = told_status s; stat_sn = n.stat_sn; residual = residual }

abbrev pub transfer : TransferLimits → SequenceNumbers → AnsweredCommand → Option Completion → Transfer
transfer l n c completion = record { limits = l; numbers = n; initiator_task_tag = c.initiator_task_tag; completion = completion }

-- a response behind so many Data-In
abbrev pub response_behind : (count : ℕ) → SequenceNumbers → AnsweredCommand → Status → Option Sense → Residual → TargetPduValue
response_behind count n c s sense residual = pdu (header.ScsiResponse (record {
  response = CommandCompletedAtTarget;
  status = told_status s;
  initiator_task_tag = c.initiator_task_tag;
  stat_sn = n.stat_sn;
  exp_cmd_sn = n.exp_cmd_sn;
  max_cmd_sn = n.max_cmd_sn;
  exp_data_sn = record { number = count };
  residual = residual;
})) (sense_segment sense)

-- the data with the status, or the data and then a response
abbrev pub with_data : TransferLimits → SequenceNumbers → AnsweredCommand → Status → (bytes : List ℕ) → List TargetPduValue
with_data l n c s bytes = data_ins (transfer l n c (Some (ending n s (residual_of c bytes)))) (sent c bytes)

-- the data before a response
abbrev pub data_before : TransferLimits → SequenceNumbers → AnsweredCommand → (bytes : List ℕ) → List TargetPduValue
data_before l n c bytes = data_ins (transfer l n c None) (sent c bytes)

-- a response by itself, behind the data of which so many bytes were given and which went out in so many Data-In
abbrev pub late_response : SequenceNumbers → AnsweredCommand → Status → Option Sense → (given count : ℕ) → TargetPduValue
late_response n c s sense given count =
    response_behind count n c s sense (residual_between c.expected_data_transfer_length (transferable_of c given))

abbrev pub with_response : TransferLimits → SequenceNumbers → AnsweredCommand → Status → Option Sense → (bytes : List ℕ) → List TargetPduValue
with_response l n c s sense bytes =
    let ins = data_before l n c bytes in ins ++ late_response n c s sense (length bytes) (length ins) ∷ []

-- the PDUs that answer a command to which its unit has replied so
abbrev pub command_answer : TransferLimits → SequenceNumbers → AnsweredCommand → Status → Option Sense → (bytes : List ℕ) → List TargetPduValue
command_answer l n c s sense bytes =
    if goes_with_data s (sent c bytes) then with_data l n c s bytes else with_response l n c s sense bytes
