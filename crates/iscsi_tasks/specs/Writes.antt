-- The data of a command that writes (RFC 7143, "Data Transfer Overview", "SCSI Data-Out", "Sense Data").
use Rattle.std.specs.Prelude.{ℕ, ◌+◌, ◌==◌, nat_lt, Bool, not, ◌&&◌, ◌||◌, min, Option, Some, None, if◌then◌else◌}
use Rattle.iscsi_pdu.specs.SerialNumbers.{next}
use Rattle.iscsi_pdu.specs.declared.scsi_command.ScsiCommand.{ScsiCommand}
use Rattle.iscsi_pdu.specs.declared.data_out.DataOut.{DataOut}
use Rattle.iscsi_keys.specs.declared.parameters.SessionParameters.{SessionParameters}
use Rattle.iscsi_tasks.specs.declared.fault.TaskFault.{TaskFault}
use Rattle.iscsi_tasks.specs.declared.fault.TaskFault.TheVariants.{UnexpectedUnsolicitedData, IncorrectAmountOfData, DataOffsetError}
use Rattle.iscsi_tasks.specs.declared.sequence.DataSequence.{DataSequence}
use Rattle.iscsi_tasks.specs.declared.awaiting.Awaiting.{Awaiting}
use Rattle.iscsi_tasks.specs.declared.awaiting.Awaiting.TheVariants.{Turn, Data, Failing, Failed}

-- ASC and ASCQ with sense key ABORTED COMMAND
abbrev pub additional_sense : TaskFault → ℕ × ℕ
additional_sense UnexpectedUnsolicitedData = (0x0C, 0x0C)
additional_sense IncorrectAmountOfData = (0x0C, 0x0D)
additional_sense DataOffsetError = (0x4B, 0x05)

-- how much data a command has: all that it announces, up to what a unit takes; without W none
abbrev pub wanted : (limit : ℕ) → ScsiCommand → ℕ
wanted limit c = if c.writes then min c.expected_data_transfer_length limit else 0

-- how much comes unsolicited, as immediate data and in Data-Out
abbrev pub first_burst : SessionParameters → ScsiCommand → ℕ
first_burst p c = min c.expected_data_transfer_length p.first_burst_length

-- immediate data and unsolicited Data-Out come only where they are agreed, and immediate data are no more than a first burst
abbrev pub command_fault : SessionParameters → ScsiCommand → (count : ℕ) → Option TaskFault
command_fault p c count =
    if not p.immediate_data && nat_lt 0 count then Some UnexpectedUnsolicitedData
    else if p.initial_r2t && not c.is_final then Some UnexpectedUnsolicitedData
    else if nat_lt (first_burst p c) count then Some IncorrectAmountOfData
    else None

-- a task that has failed is answered once the last PDU of the sequence is there, which has F
abbrev pub failed : (is_final : Bool) → TaskFault → Awaiting
failed is_final fault = if is_final then Failed fault else Failing fault

abbrev pub unsolicited : SessionParameters → ScsiCommand → DataSequence
unsolicited p c = record { target_transfer_tag = 0xFFFFFFFF; end = first_burst p c; data_sn = record { number = 0 } }

-- without F unsolicited Data-Out follow
abbrev pub unless_command_fault : SessionParameters → ScsiCommand → Option TaskFault → Awaiting
unless_command_fault p c (Some fault) = failed c.is_final fault
unless_command_fault p c None = if c.is_final then Turn else Data (unsolicited p c)

-- what a command with so many bytes of immediate data waits for
abbrev pub first_awaited : SessionParameters → ScsiCommand → (count : ℕ) → Awaiting
first_awaited p c count = if c.writes then unless_command_fault p c (command_fault p c count) else Turn

-- a Data-Out carries the tag of its sequence, and continues where the one before ended; DataSN counts them; together they have
-- what was asked for, and the last one has F
abbrev pub data_fault : DataSequence → (held : ℕ) → DataOut → (count : ℕ) → Option TaskFault
data_fault s held d count =
    if not (d.target_transfer_tag == s.target_transfer_tag) then Some UnexpectedUnsolicitedData
    else if not (d.buffer_offset == held) || not (d.data_sn.number == s.data_sn.number) then Some DataOffsetError
    else if nat_lt s.end (held + count) || (d.is_final && nat_lt (held + count) s.end) then Some IncorrectAmountOfData
    else None

abbrev pub behind : DataSequence → DataSequence
behind s = record s { data_sn = next s.data_sn }

abbrev pub behind_data : (is_final : Bool) → DataSequence → Awaiting
behind_data is_final s = if is_final then Turn else Data (behind s)
