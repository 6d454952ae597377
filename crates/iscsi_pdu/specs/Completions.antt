-- How a command ended: its status, and how much of its data is left (RFC 7143, "Residual Count", "SCSI Data-In").
use Rattle.std.specs.Prelude.{ℕ, ◌+◌, List, Option, Some, None, if◌then◌else◌}
use Rattle.iscsi_pdu.specs.Fields.{byte, bit, four, serial}
use Rattle.iscsi_pdu.specs.Codes.{scsi_status_code, scsi_status_of}
use Rattle.iscsi_pdu.specs.declared.residual.Residual.{Residual}
use Rattle.iscsi_pdu.specs.declared.residual.Residual.TheVariants.{Exact, Overflow, Underflow}
use Rattle.iscsi_pdu.specs.declared.completion.Completion.{Completion}

-- O is bit 2 of byte 1, U bit 1; the count is the last row
abbrev pub residual : List ℕ → Residual
residual h = if bit h 1 2 then Overflow (four h 44) else if bit h 1 1 then Underflow (four h 44) else Exact

abbrev pub residual_flags : Residual → ℕ
residual_flags (Overflow count) = 4
residual_flags (Underflow count) = 2
residual_flags Exact = 0

abbrev pub residual_count : Residual → ℕ
residual_count (Overflow count) = count
residual_count (Underflow count) = count
residual_count Exact = 0

-- S is bit 0 of byte 1: status, StatSN and residual are fields with it alone
abbrev pub completion : List ℕ → Option Completion
completion h =
    if bit h 1 0
    then Some (record { status = scsi_status_of (byte h 3); stat_sn = serial h 24; residual = residual h })
    else None

abbrev pub completion_flags : Option Completion → ℕ
completion_flags None = 0
completion_flags (Some c) = residual_flags c.residual + 1

abbrev pub completion_status : Option Completion → ℕ
completion_status None = 0
completion_status (Some c) = scsi_status_code c.status

abbrev pub completion_stat_sn : Option Completion → ℕ
completion_stat_sn None = 0
completion_stat_sn (Some c) = c.stat_sn.number

abbrev pub completion_count : Option Completion → ℕ
completion_count None = 0
completion_count (Some c) = residual_count c.residual
