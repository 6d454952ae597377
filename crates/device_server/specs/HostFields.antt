-- What is refused by fields and sent data alone in the hosts' profile: where it differs from the default one, which commands are judged otherwise.
use Rattle.std.specs.Prelude.{ℕ, ◌==◌, nat_lt, Bool, not, ◌&&◌, ◌||◌, List, length, Option, Some, None, Result, Ok, Err}
use Rattle.scsi_cdb.specs.declared.host_request.HostRequest.{HostRequest}
use Rattle.scsi_cdb.specs.declared.host_request.HostRequest.TheVariants.{SendDiagnostic, LogSelect, LogSense, ModeSelect10, ModeSense10, ReportSupportedOperationCodes, ReportSupportedTaskManagementFunctions, PositionToElement, InitializeElementStatusWithRange, ExchangeMedium}
use Rattle.scsi_cdb.specs.declared.kind.Kind.{Kind}
use Rattle.scsi_cdb.specs.declared.kind.Kind.TheVariants as kind
use Rattle.scsi_cdb.specs.declared.profile.Profile.TheVariants.{Hosts}
use Rattle.scsi_cdb.specs.declared.request.Request.{Request}
use Rattle.scsi_cdb.specs.declared.request.Request.TheVariants.{Write, ModeSelect, ModeSense, LoadUnload, Locate, ReadElementStatus, Host}
use Rattle.scsi_sense.specs.declared.condition.Condition.{Condition}
use Rattle.tape_medium.specs.Limits.{most_block}
use Rattle.mode_pages.specs.ChangerData.{changer_fault}
use Rattle.mode_pages.specs.DriveData.{drive_fault}
use Rattle.mode_pages.specs.Select as mode
use Rattle.mode_pages.specs.Values.{default_values}
use Rattle.mode_pages.specs.declared.request.HeaderForm.{HeaderForm}
use Rattle.mode_pages.specs.declared.request.HeaderForm.TheVariants.{Six, Ten}
use Rattle.mode_pages.specs.declared.request.ModeSense.{ModeSense as ModeQuery}
use Rattle.log_pages.specs.LogSelect as log
use Rattle.log_pages.specs.LogSense.{drive_log_fault, changer_log_fault}
use Rattle.log_pages.specs.declared.log_sense.LogSense.{LogSense as LogQuery}
use Rattle.supported_commands.specs.Options.{options_at}
use Rattle.device_server.specs.Fields.{invalid_where, write_fault, spec_field_fault}
use Rattle.device_server.specs.Hosts.{mode_sense, log_sense, log_select, codes_fault}

-- why something is refused, if it is
abbrev pub refusal_of : {A : Type 0} → Result A Condition → Option Condition
refusal_of (Ok x) = None
refusal_of (Err condition) = Some condition

-- MODE SELECT: whether it is refused doesn't depend on the values before
abbrev pub host_mode_select_fault : HeaderForm → (save_pages : Bool) → (list_length : ℕ) → List ℕ → Option Condition
host_mode_select_fault form save_pages list_length bytes = refusal_of (mode.selected default_values (most_block Hosts) form save_pages list_length bytes)

abbrev pub host_mode_sense_fault : Kind → ModeQuery → Option Condition
host_mode_sense_fault kind.Drive sense = drive_fault sense
host_mode_sense_fault kind.Changer sense = changer_fault sense

abbrev pub log_sense_fault : Kind → LogQuery → Option Condition
log_sense_fault kind.Drive sense = drive_log_fault sense
log_sense_fault kind.Changer sense = changer_log_fault sense

-- the commands that only the hosts' profile has. SEND DIAGNOSTIC: there is the default self-test alone, and no page is sent. POSITION TO ELEMENT,
-- EXCHANGE MEDIUM: media aren't turned over.
abbrev pub host_command_fault : Kind → HostRequest → List ℕ → Option Condition
host_command_fault kind (SendDiagnostic code self_test list_length) bytes = invalid_where (not (code == 0) || not (list_length == 0))
host_command_fault kind (LogSelect pcr sp control page subpage list_length) bytes =
    refusal_of (log.selected kind (log_select pcr sp page subpage list_length) (length bytes))
host_command_fault kind (LogSense ppc sp control page subpage pointer allocation_length) bytes =
    log_sense_fault kind (log_sense ppc sp page subpage pointer)
host_command_fault kind (ModeSelect10 sp list_length) bytes = host_mode_select_fault Ten sp list_length bytes
host_command_fault kind (ModeSense10 dbd control page subpage allocation_length) bytes =
    host_mode_sense_fault kind (mode_sense Ten dbd control page subpage)
host_command_fault kind (ReportSupportedOperationCodes rctd options code action allocation_length) bytes =
    codes_fault kind rctd (options_at options) code action
host_command_fault kind (ReportSupportedTaskManagementFunctions repd allocation_length) bytes = None
host_command_fault kind (PositionToElement transport destination invert) bytes = invalid_where invert
host_command_fault kind (InitializeElementStatusWithRange fast range start count) bytes = None
host_command_fault kind (ExchangeMedium transport source first second inv1 inv2) bytes = invalid_where (inv1 || inv2)

-- WRITE: blocks are longer. LOAD UNLOAD: nothing is moved to the end of the tape, and HOLD is for unloading alone (profile). LOCATE: BT is ignored, and with CP there is
-- just partition 0. READ ELEMENT STATUS: device identifiers can be asked for.
abbrev pub host_field_fault : Kind → Request → List ℕ → Option Condition
host_field_fault kind (Write fixed transfer_length) bytes = write_fault Hosts fixed transfer_length bytes
host_field_fault kind (ModeSelect sp list_length) bytes = host_mode_select_fault Six sp list_length bytes
host_field_fault kind (ModeSense dbd control page subpage allocation_length) bytes =
    host_mode_sense_fault kind (mode_sense Six dbd control page subpage)
host_field_fault kind (LoadUnload hold eot load) bytes = invalid_where (eot || hold && load)
host_field_fault kind (Locate bt cp object partition) bytes = invalid_where (cp && not (partition == 0))
host_field_fault kind (ReadElementStatus voltag type_code start count curdata dvcid allocation_length) bytes = invalid_where (nat_lt 4 type_code)
host_field_fault kind (Host command) bytes = host_command_fault kind command bytes
host_field_fault kind request bytes = spec_field_fault kind request bytes
