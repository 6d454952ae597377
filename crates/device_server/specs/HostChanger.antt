-- A medium changer and what it keeps, and one of the hosts' profile by the commands that it carries out otherwise than one of the default
-- profile, or alone (SPC-4, SMC-3).
use Rattle.std.specs.Prelude.{ℕ, ◌==◌, Bool, ◌&&◌, List, [], length, take, Option, Some, None, is_some, Result, Ok, Err, if◌then◌else◌}
use Rattle.std.specs.Option.{option_map}
use Rattle.scsi_cdb.specs.declared.host_request.HostRequest.{HostRequest}
use Rattle.scsi_cdb.specs.declared.host_request.HostRequest.TheVariants.{SendDiagnostic, LogSelect, LogSense, ModeSelect10, ModeSense10, ReportSupportedOperationCodes, ReportSupportedTaskManagementFunctions, PositionToElement, InitializeElementStatusWithRange, ExchangeMedium}
use Rattle.scsi_cdb.specs.declared.kind.Kind.TheVariants as kind
use Rattle.scsi_cdb.specs.declared.request.Request.{Request}
use Rattle.scsi_cdb.specs.declared.request.Request.TheVariants.{TestUnitReady, InitializeElementStatus, ModeSense, MoveMedium, ReadElementStatus, Host}
use Rattle.scsi_sense.specs.declared.condition.Condition.{Condition}
use Rattle.scsi_sense.specs.declared.condition.Condition.TheVariants.{InternalTargetFailure, InvalidCommandOperationCode, InvalidElementAddress}
use Rattle.tape_medium.specs.declared.elements.MapFault.{MapFault}
use Rattle.tape_medium.specs.Elements.{Elements, element_at, tag_held, first_data_transfer, first_import_export, first_storage, moves, move_refusal}
use Rattle.element_map.specs.Exchange.{exchange_refusal, exchanges}
use Rattle.element_sources.specs.HostStatus.{host_status}
use Rattle.element_sources.specs.Sources.{source_moved, source_exchanged}
use Rattle.element_sources.specs.declared.status_request.StatusRequest.{StatusRequest}
use Rattle.mode_pages.specs.ChangerData.{changer_answer}
use Rattle.mode_pages.specs.declared.elements.ElementAddresses.{ElementAddresses}
use Rattle.mode_pages.specs.declared.request.HeaderForm.TheVariants.{Six, Ten}
use Rattle.log_pages.specs.LogSelect as log
use Rattle.log_pages.specs.LogSense.{changer_log_data}
use Rattle.log_pages.specs.declared.change.LogChange.{LogChange}
use Rattle.supported_commands.specs.Options.{options_at}
use Rattle.supported_commands.specs.TaskManagement.{task_management}
use Rattle.device_server.specs.declared.host_changer.HostChanger.{HostChanger}
use Rattle.device_server.specs.declared.outcome.Outcome.{Outcome}
use Rattle.device_server.specs.Outcomes.{done, tells, refused, answers}
use Rattle.device_server.specs.Changer.{move_condition}
use Rattle.device_server.specs.Hosts.{mode_sense, log_sense, log_select, told_of_log, codes_answer}

-- a changer: its elements with what they hold, and what it keeps besides if it is of the hosts' profile
pub record ChangerView : Type 0 where
  pub elements : Elements
  pub hosts : Option HostChanger

-- one of the default profile
abbrev pub spec_changer : Elements → ChangerView
spec_changer e = record { elements = e; hosts = None }

-- one of the hosts' profile
abbrev pub host_view : Elements → HostChanger → ChangerView
host_view e h = record { elements = e; hosts = Some h }

-- SOURCES. A volume was carried from one element to another
abbrev pub sources_moved : HostChanger → (source destination : ℕ) → HostChanger
sources_moved h source destination = record h { sources = source_moved h.sources source destination }

abbrev pub journey_noted : ChangerView → (source destination : ℕ) → ChangerView
journey_noted c source destination = record c { hosts = option_map (λ (h : HostChanger). sources_moved h source destination) c.hosts }

-- two volumes were exchanged
abbrev pub sources_exchanged : HostChanger → (source first second : ℕ) → HostChanger
sources_exchanged h source first second = record h { sources = source_exchanged h.sources source first second }

abbrev pub exchange_noted : ChangerView → (source first second : ℕ) → ChangerView
exchange_noted c source first second = record c { hosts = option_map (λ (h : HostChanger). sources_exchanged h source first second) c.hosts }

-- MOVE MEDIUM, as in the default profile; a volume that was moved has a source
abbrev pub host_moved_alone : ChangerView → HostChanger → (source destination : ℕ) → Result Elements MapFault → ChangerView × Outcome
host_moved_alone c h source destination (Ok after) = (record { elements = after; hosts = Some (sources_moved h source destination) }, done [])
host_moved_alone c h source destination (Err fault) = (c, refused InternalTargetFailure)

abbrev pub host_carried : ChangerView → HostChanger → (source destination : ℕ) → Option MapFault → ChangerView × Outcome
host_carried c h source destination (Some fault) = (c, refused (move_condition fault))
host_carried c h source destination None = host_moved_alone c h source destination (moves c.elements source destination)

-- EXCHANGE MEDIUM (SMC-3, "EXCHANGE MEDIUM command"): first what the map and the marks refuse. The changer exchanges volumes among its own
-- elements; each has a source then. An exchange with a drive isn't one for the changer alone.
abbrev pub host_exchanged_alone : ChangerView → HostChanger → (source first second : ℕ) → Result Elements MapFault → ChangerView × Outcome
host_exchanged_alone c h source first second (Ok after) = (record { elements = after; hosts = Some (sources_exchanged h source first second) }, done [])
host_exchanged_alone c h source first second (Err fault) = (c, refused InternalTargetFailure)

abbrev pub host_exchanged : ChangerView → HostChanger → (source first second : ℕ) → Option MapFault → ChangerView × Outcome
host_exchanged c h source first second (Some fault) = (c, refused (move_condition fault))
host_exchanged c h source first second None = host_exchanged_alone c h source first second (exchanges c.elements source first second)

-- READ ELEMENT STATUS by its fields
abbrev pub status_asked : (volume_tags : Bool) → (element_type_code start count : ℕ) → (device_identifiers : Bool) → StatusRequest
status_asked volume_tags element_type_code start count device_identifiers =
    record {
      element_type_code = element_type_code;
      starting_element_address = start;
      number_of_elements = count;
      volume_tags = volume_tags;
      device_identifiers = device_identifiers;
    }

-- MODE SENSE shows where the elements are
abbrev pub addresses_of : Elements → ElementAddresses
addresses_of e =
    record {
      medium_transport = record { first = 0; count = 1 };
      storage = record { first = first_storage; count = length e.storage };
      import_export = record { first = first_import_export; count = length e.import_export };
      data_transfer = record { first = first_data_transfer; count = length e.data_transfer };
    }

-- LOG SELECT: a changer has no counters
abbrev pub changer_log_selected : Result LogChange Condition → Outcome
changer_log_selected (Err condition) = refused condition
changer_log_selected (Ok change) = tells (told_of_log change)

-- POSITION TO ELEMENT (SMC-3, "POSITION TO ELEMENT command"): the transport is the element 0, and the destination one that can hold a volume
abbrev pub can_hold : Elements → (address : ℕ) → Bool
can_hold e address = is_some (tag_held e (element_at e address))

abbrev pub positioned : Elements → (transport destination : ℕ) → Outcome
positioned e transport destination = if transport == 0 && can_hold e destination then done [] else refused InvalidElementAddress

-- THE COMMANDS that only the hosts' profile has, of which EXCHANGE MEDIUM alone changes a changer. It has no MODE SELECT.
abbrev pub changer_command_step : ChangerView → HostChanger → HostRequest → List ℕ → ChangerView × Outcome
changer_command_step c h (SendDiagnostic code self_test list_length) bytes = (c, done [])
changer_command_step c h (LogSelect pcr sp control page subpage list_length) bytes =
    (c, changer_log_selected (log.selected kind.Changer (log_select pcr sp page subpage list_length) (length bytes)))
changer_command_step c h (LogSense ppc sp control page subpage pointer allocation_length) bytes =
    (c, answers allocation_length (changer_log_data (log_sense ppc sp page subpage pointer)))
changer_command_step c h (ModeSelect10 sp list_length) bytes = (c, refused InvalidCommandOperationCode)
changer_command_step c h (ModeSense10 dbd control page subpage allocation_length) bytes =
    (c, answers allocation_length (changer_answer (mode_sense Ten dbd control page subpage) (addresses_of c.elements)))
changer_command_step c h (ReportSupportedOperationCodes rctd options code action allocation_length) bytes =
    (c, answers allocation_length (codes_answer kind.Changer rctd (options_at options) code action))
changer_command_step c h (ReportSupportedTaskManagementFunctions repd allocation_length) bytes = (c, done (take allocation_length (task_management repd)))
changer_command_step c h (PositionToElement transport destination invert) bytes = (c, positioned c.elements transport destination)
changer_command_step c h (InitializeElementStatusWithRange fast range start count) bytes = (c, done [])
changer_command_step c h (ExchangeMedium transport source first second inv1 inv2) bytes =
    host_exchanged c h source first second (exchange_refusal c.elements transport source first second)

-- THE STEP of a changer of the hosts' profile by a command whose fields aren't refused
abbrev pub host_changer_step : ChangerView → HostChanger → Request → List ℕ → ChangerView × Outcome
host_changer_step c h TestUnitReady bytes = (c, done [])
host_changer_step c h InitializeElementStatus bytes = (c, done [])
host_changer_step c h (ModeSense dbd control page subpage allocation_length) bytes =
    (c, answers allocation_length (changer_answer (mode_sense Six dbd control page subpage) (addresses_of c.elements)))
host_changer_step c h (MoveMedium transport source destination invert) bytes =
    host_carried c h source destination (move_refusal c.elements transport source destination)
host_changer_step c h (ReadElementStatus voltag type_code start count curdata dvcid allocation_length) bytes =
    (c, done (take allocation_length (host_status c.elements h.sources h.identity.library_number (status_asked voltag type_code start count dvcid))))
host_changer_step c h (Host command) bytes = changer_command_step c h command bytes
host_changer_step c h request bytes = (c, refused InvalidCommandOperationCode)
