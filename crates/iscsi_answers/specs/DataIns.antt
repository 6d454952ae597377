-- The data of a command in Data-In PDUs (RFC 7143, "SCSI Data-In"): each has as much as the initiator takes and as its burst still
-- has room for.
use Rattle.std.specs.Prelude.{ℕ, ◌+◌, ◌-◌, ◌%◌, ◌==◌, ◌||◌, zero, suc, min, Bool, List, [], ◌∷◌, length, take, drop, Option, None, if◌then◌else◌}
use Rattle.iscsi_pdu.specs.Pdus.{TargetPduValue}
use Rattle.iscsi_pdu.specs.declared.completion.Completion.{Completion}
use Rattle.iscsi_pdu.specs.declared.target_header.TargetHeader.TheVariants as header
use Rattle.iscsi_answers.specs.declared.data_in.Transfer.{Transfer}
use Rattle.iscsi_answers.specs.declared.limits.TransferLimits.{TransferLimits}
use Rattle.iscsi_answers.specs.Single.{pdu}

-- how many of the bytes that are left go out at an offset: up to the end of the burst that it lies in
abbrev pub segment_length : TransferLimits → (offset left : ℕ) → ℕ
segment_length l offset left = min left (min l.max_data_segment_length (l.max_burst_length - offset % l.max_burst_length))

-- the data or a burst ends with so many bytes from the offset on
abbrev pub ends_there : TransferLimits → (offset count left : ℕ) → Bool
ends_there l offset count left = (count == left) || ((offset + count) % l.max_burst_length == 0)

-- how the command ended goes with the last
abbrev pub completion_there : Transfer → (count left : ℕ) → Option Completion
completion_there t count left = if count == left then t.completion else None

-- the PDU with the first of the bytes that are left
abbrev pub data_in_of : Transfer → (offset sn count : ℕ) → (rest : List ℕ) → TargetPduValue
data_in_of t offset sn count rest = pdu (header.DataIn (record {
  is_final = ends_there t.limits offset count (length rest);
  initiator_task_tag = t.initiator_task_tag;
  completion = completion_there t count (length rest);
  exp_cmd_sn = t.numbers.exp_cmd_sn;
  max_cmd_sn = t.numbers.max_cmd_sn;
  data_sn = record { number = sn };
  buffer_offset = offset;
})) (take count rest)

unfoldable pub data_in_at : Transfer → (offset sn : ℕ) → (rest : List ℕ) → TargetPduValue
data_in_at t offset sn rest = data_in_of t offset sn (segment_length t.limits offset (length rest)) rest

-- the bytes behind it
abbrev pub behind : Transfer → (offset : ℕ) → (rest : List ℕ) → List ℕ
behind t offset rest = drop (segment_length t.limits offset (length rest)) rest

-- the PDUs, as long as bytes are left: each has one byte at least, so there are no more than bytes
abbrev pub data_ins_within : (most : ℕ) → Transfer → (offset sn : ℕ) → (rest : List ℕ) → List TargetPduValue
data_ins_within zero t offset sn rest = []
data_ins_within (suc most) t offset sn rest =
    if length rest == 0 then []
    else data_in_at t offset sn rest ∷ data_ins_within most t (offset + segment_length t.limits offset (length rest)) (sn + 1) (behind t offset rest)

abbrev pub data_ins : Transfer → (bytes : List ℕ) → List TargetPduValue
data_ins t bytes = data_ins_within (length bytes) t 0 0 bytes
