-- A drive of the hosts' profile, by the commands that it carries out otherwise than one of the default profile, or alone (SPC-4, SSC-4).
use Rattle.std.specs.Prelude.{ℕ, ◌+◌, ◌-◌, ◌==◌, Bool, true, false, not, ◌&&◌, ◌||◌, List, [], ◌∷◌, ◌++◌, length, take, replicate, Option, Some, None, is_some, Result, Ok, Err, if◌then◌else◌}
use Rattle.std.specs.Option.{option_map}
use Rattle.scsi_cdb.specs.declared.host_request.HostRequest.{HostRequest}
use Rattle.scsi_cdb.specs.declared.host_request.HostRequest.TheVariants.{SendDiagnostic, LogSelect, LogSense, ModeSelect10, ModeSense10, ReportSupportedOperationCodes, ReportSupportedTaskManagementFunctions, PositionToElement, InitializeElementStatusWithRange, ExchangeMedium}
use Rattle.scsi_cdb.specs.declared.kind.Kind.TheVariants as kind
use Rattle.scsi_cdb.specs.declared.profile.Profile.TheVariants.{Hosts}
use Rattle.scsi_cdb.specs.declared.request.Request.{Request}
use Rattle.scsi_cdb.specs.declared.request.Request.TheVariants.{ReadBlockLimits, Read, Write, WriteFilemarks, ReadPosition, ModeSelect, ModeSense, LoadUnload, Host}
use Rattle.scsi_sense.specs.declared.condition.Condition.{Condition}
use Rattle.scsi_sense.specs.declared.condition.Condition.TheVariants.{MediumNotPresent, InitializingCommandRequired, InvalidCommandOperationCode}
use Rattle.tape_medium.specs.Limits.{most_block}
use Rattle.tape_medium.specs.Tape.{bytes_in, behind}
use Rattle.tape_medium.specs.TapeView.{TapeView}
use Rattle.tape_medium.specs.declared.volume.Volume.{Volume}
use Rattle.inquiry_data.specs.declared.unit_identity.UnitIdentity.{UnitIdentity}
use Rattle.mode_pages.specs.DriveData.{drive_answer}
use Rattle.mode_pages.specs.Select as mode
use Rattle.mode_pages.specs.Values.{mode_values}
use Rattle.mode_pages.specs.declared.request.HeaderForm.TheVariants.{Six, Ten}
use Rattle.mode_pages.specs.declared.values.DriveState.{DriveState}
use Rattle.mode_pages.specs.declared.values.ModeValues.{ModeValues}
use Rattle.log_pages.specs.Counters as counters
use Rattle.log_pages.specs.LogSelect as log
use Rattle.log_pages.specs.LogSense.{drive_log_data}
use Rattle.log_pages.specs.declared.change.LogChange.{LogChange}
use Rattle.log_pages.specs.declared.counters.LogCounters.{LogCounters}
use Rattle.log_pages.specs.declared.drive_log.DriveLog.{DriveLog}
use Rattle.log_pages.specs.declared.drive_log.VolumeLog.{VolumeLog}
use Rattle.supported_commands.specs.Options.{options_at}
use Rattle.supported_commands.specs.TaskManagement.{task_management}
use Rattle.unit_attention.specs.declared.kind.Kind.{Kind as Attention}
use Rattle.unit_attention.specs.declared.kind.Kind.TheVariants.{MediumChanged}
use Rattle.device_server.specs.declared.host_drive.HostDrive.{HostDrive}
use Rattle.device_server.specs.declared.outcome.Outcome.{Outcome}
use Rattle.device_server.specs.EarlyWarning.{zone, is_in_zone, warned}
use Rattle.device_server.specs.Outcomes.{done, set, tells, refused, answers}
use Rattle.device_server.specs.Drive.{DriveView, empty_drive, is_protected, rewound, four, block_limits, on_tape}
use Rattle.device_server.specs.Hosts.{new_host_drive, mode_sense, log_sense, log_select, told_of_log, codes_answer}

-- a drive with an empty bay, which is this unit
abbrev pub empty_host_drive : UnitIdentity → DriveView
empty_host_drive identity = record empty_drive { hosts = Some (new_host_drive identity) }

-- MODES. What MODE SELECT can change, and what MODE SENSE shows
abbrev pub mode_of : DriveView → HostDrive → ModeValues
mode_of d h = mode_values d.block_length h.compression

abbrev pub mode_state : DriveView → HostDrive → DriveState
mode_state d h = record { values = mode_of d h; write_protected = is_protected d.bay; has_volume = is_some d.bay }

abbrev pub is_other : (before after : Bool) → Bool
is_other true after = not after
is_other false after = after

abbrev pub is_other_mode : (before after : ModeValues) → Bool
is_other_mode before after = not (after.block_length == before.block_length) || is_other before.compression after.compression

-- MODE SELECT tells the others where it changed any value
abbrev pub host_selects : DriveView → HostDrive → Result ModeValues Condition → DriveView × Outcome
host_selects d h (Err condition) = (d, refused condition)
host_selects d h (Ok values) =
    (record d { block_length = values.block_length; hosts = Some (record h { compression = values.compression }) }, set (is_other_mode (mode_of d h) values))

-- LOAD UNLOAD. A volume in the bay is loaded, held or ejected. The others are told where it becomes ready.
abbrev pub told_of_load : (loaded load : Bool) → Option Attention
told_of_load loaded load = if load && not loaded then Some MediumChanged else None

abbrev pub host_loads : DriveView → HostDrive → Option Volume → (hold load : Bool) → DriveView × Outcome
host_loads d h None hold load = (d, refused MediumNotPresent)
host_loads d h (Some v) hold load =
    (record d { bay = Some (rewound v); loaded = load; hosts = Some (record h { held = hold }) }, tells (told_of_load d.loaded load))

-- COUNTERS. The bytes of the blocks that were passed between two positions, or written there
abbrev pub passed_bytes : (before after : TapeView) → ℕ
passed_bytes before after = bytes_in (behind after) - bytes_in (behind before)

-- after a command that passed blocks of so many bytes and sent so many
abbrev pub counted : LogCounters → Request → (passed sent : ℕ) → LogCounters
counted c (Read sili fixed transfer_length) passed sent = counters.read c passed sent
counted c (Write fixed transfer_length) passed sent = counters.wrote c passed
counted c request passed sent = c

-- the short form of READ POSITION: BOP, and EOP in the early-warning zone, then the position as the first and the last logical object location
abbrev pub host_position_data : TapeView → List ℕ
host_position_data t =
    ((if t.position == 0 then 0x80 else 0x00) + (if is_in_zone t then 0x40 else 0x00)) ∷ replicate 3 0 ++ four t.position ++ four t.position ++ replicate 8 0

-- A COMMAND ON THE TAPE is carried out as in the default profile, but for longer blocks and more of them, and a write that reaches the zone is
-- warned
abbrev pub host_on_tape : (block_length : ℕ) → (protected : Bool) → TapeView → Request → List ℕ → TapeView × Outcome
host_on_tape block_length protected t (Write fixed told) bytes = warned told (on_tape Hosts block_length protected t (Write fixed told) bytes)
host_on_tape block_length protected t (WriteFilemarks wsmk immed count) bytes =
    warned count (on_tape Hosts block_length protected t (WriteFilemarks wsmk immed count) bytes)
host_on_tape block_length protected t ReadPosition bytes = (t, done (host_position_data t))
host_on_tape block_length protected t request bytes = on_tape Hosts block_length protected t request bytes

-- and counted
abbrev pub host_in_volume : DriveView → HostDrive → Volume → Request → TapeView × Outcome → DriveView × Outcome
host_in_volume d h v request step = (
  record d {
    bay = Some (record v { tape = step.0 });
    hosts = Some (record h { counters = counted h.counters request (passed_bytes v.tape step.0) (length step.1.payload) });
  },
  step.1,
)

-- NOT READY: a volume that was ejected is as none
abbrev pub not_ready : (held : Bool) → Condition
not_ready held = if held then InitializingCommandRequired else MediumNotPresent

abbrev pub host_in_bay : DriveView → HostDrive → Option Volume → Request → List ℕ → DriveView × Outcome
host_in_bay d h None request bytes = (d, refused MediumNotPresent)
host_in_bay d h (Some v) request bytes =
    if d.loaded then host_in_volume d h v request (host_on_tape d.block_length v.protected v.tape request bytes)
    else (d, refused (not_ready h.held))

-- LOGS
abbrev pub volume_log : Volume → VolumeLog
volume_log v =
    record {
      capacity = v.tape.capacity;
      to_end_of_data = bytes_in v.tape.objects;
      position = bytes_in (behind v.tape);
      early_warning = zone v.tape.capacity;
    }

abbrev pub drive_log : DriveView → HostDrive → DriveLog
drive_log d h = record { counters = h.counters; volume = if d.loaded then option_map volume_log d.bay else None }

abbrev pub host_log_selects : DriveView → HostDrive → Result LogChange Condition → DriveView × Outcome
host_log_selects d h (Err condition) = (d, refused condition)
host_log_selects d h (Ok change) =
    (record d { hosts = Some (record h { counters = counters.after h.counters change }) }, tells (told_of_log change))

-- THE COMMANDS that only the hosts' profile has, of which two are a changer's
abbrev pub host_command_step : DriveView → HostDrive → HostRequest → List ℕ → DriveView × Outcome
host_command_step d h (SendDiagnostic code self_test list_length) bytes = (d, done [])
host_command_step d h (LogSelect pcr sp control page subpage list_length) bytes =
    host_log_selects d h (log.selected kind.Drive (log_select pcr sp page subpage list_length) (length bytes))
host_command_step d h (LogSense ppc sp control page subpage pointer allocation_length) bytes =
    (d, answers allocation_length (drive_log_data (log_sense ppc sp page subpage pointer) (drive_log d h)))
host_command_step d h (ModeSelect10 sp list_length) bytes = host_selects d h (mode.selected (mode_of d h) (most_block Hosts) Ten sp list_length bytes)
host_command_step d h (ModeSense10 dbd control page subpage allocation_length) bytes =
    (d, answers allocation_length (drive_answer (mode_sense Ten dbd control page subpage) (mode_state d h)))
host_command_step d h (ReportSupportedOperationCodes rctd options code action allocation_length) bytes =
    (d, answers allocation_length (codes_answer kind.Drive rctd (options_at options) code action))
host_command_step d h (ReportSupportedTaskManagementFunctions repd allocation_length) bytes = (d, done (take allocation_length (task_management repd)))
host_command_step d h (PositionToElement transport destination invert) bytes = (d, refused InvalidCommandOperationCode)
host_command_step d h (ExchangeMedium transport source first second inv1 inv2) bytes = (d, refused InvalidCommandOperationCode)
host_command_step d h (InitializeElementStatusWithRange fast range start count) bytes = (d, refused InvalidCommandOperationCode)

-- THE STEP of a drive of the hosts' profile by a command whose fields aren't refused
abbrev pub host_drive_step : DriveView → HostDrive → Request → List ℕ → DriveView × Outcome
host_drive_step d h ReadBlockLimits bytes = (d, done (block_limits Hosts))
host_drive_step d h (ModeSelect sp list_length) bytes = host_selects d h (mode.selected (mode_of d h) (most_block Hosts) Six sp list_length bytes)
host_drive_step d h (ModeSense dbd control page subpage allocation_length) bytes =
    (d, answers allocation_length (drive_answer (mode_sense Six dbd control page subpage) (mode_state d h)))
host_drive_step d h (LoadUnload hold eot load) bytes = host_loads d h d.bay hold load
host_drive_step d h (Host command) bytes = host_command_step d h command bytes
host_drive_step d h request bytes = host_in_bay d h d.bay request bytes
