-- What devices of the hosts' profile keep besides, and what their commands ask of mode pages, log pages and lists of commands.
use Rattle.std.specs.Prelude.{ℕ, Bool, true, false, List, Option, Some, None, Result, Err, if◌then◌else◌}
use Rattle.scsi_cdb.specs.declared.kind.Kind.{Kind}
use Rattle.scsi_sense.specs.declared.condition.Condition.{Condition}
use Rattle.scsi_sense.specs.declared.condition.Condition.TheVariants.{InvalidFieldInCdb}
use Rattle.inquiry_data.specs.declared.unit_identity.UnitIdentity.{UnitIdentity}
use Rattle.mode_pages.specs.Asked.{page_control}
use Rattle.mode_pages.specs.declared.request.HeaderForm.{HeaderForm}
use Rattle.mode_pages.specs.declared.request.ModeSense.{ModeSense}
use Rattle.log_pages.specs.Counters.{at_power_on, is_reset}
use Rattle.log_pages.specs.declared.change.LogChange.{LogChange}
use Rattle.log_pages.specs.declared.log_select.LogSelect.{LogSelect}
use Rattle.log_pages.specs.declared.log_sense.LogSense.{LogSense}
use Rattle.supported_commands.specs.Answers.{operation_codes, operation_codes_fault}
use Rattle.supported_commands.specs.declared.options.ReportingOptions.{ReportingOptions}
use Rattle.supported_commands.specs.declared.request.ReportOperationCodes.{ReportOperationCodes}
use Rattle.unit_attention.specs.declared.kind.Kind.{Kind as Attention}
use Rattle.unit_attention.specs.declared.kind.Kind.TheVariants.{LogParametersChanged}
use Rattle.device_server.specs.declared.host_drive.HostDrive.{HostDrive}

-- a drive that was made: nothing is held, compression is on, the counters are 0
abbrev pub new_host_drive : UnitIdentity → HostDrive
new_host_drive identity = record { identity = identity; held = false; compression = true; counters = at_power_on }

-- MODE SENSE by its fields
abbrev pub mode_sense : HeaderForm → (disable_block_descriptors : Bool) → (control page_code subpage_code : ℕ) → ModeSense
mode_sense form disable_block_descriptors control page_code subpage_code =
    record {
      form = form;
      disable_block_descriptors = disable_block_descriptors;
      page_control = page_control control;
      page_code = page_code;
      subpage_code = subpage_code;
    }

-- LOG SENSE and LOG SELECT by their fields; PC is ignored (profile)
abbrev pub log_sense : (parameter_pointer_control save_parameters : Bool) → (page_code subpage_code parameter_pointer : ℕ) → LogSense
log_sense parameter_pointer_control save_parameters page_code subpage_code parameter_pointer =
    record {
      parameter_pointer_control = parameter_pointer_control;
      save_parameters = save_parameters;
      page_code = page_code;
      subpage_code = subpage_code;
      parameter_pointer = parameter_pointer;
    }

abbrev pub log_select : (parameter_code_reset save_parameters : Bool) → (page_code subpage_code list_length : ℕ) → LogSelect
log_select parameter_code_reset save_parameters page_code subpage_code list_length =
    record {
      parameter_code_reset = parameter_code_reset;
      save_parameters = save_parameters;
      page_code = page_code;
      subpage_code = subpage_code;
      list_length = list_length;
    }

-- what a LOG SELECT tells every other nexus: that log parameters were reset, if some were
abbrev pub told_of_log : LogChange → Option Attention
told_of_log change = if is_reset change then Some LogParametersChanged else None

-- REPORT SUPPORTED OPERATION CODES by its fields: reserved reporting options are refused
abbrev pub codes_asked : (return_timeouts : Bool) → ReportingOptions → (operation_code service_action : ℕ) → ReportOperationCodes
codes_asked return_timeouts options operation_code service_action =
    record { return_timeouts = return_timeouts; options = options; operation_code = operation_code; service_action = service_action }

abbrev pub codes_fault : Kind → (return_timeouts : Bool) → Option ReportingOptions → (operation_code service_action : ℕ) → Option Condition
codes_fault kind return_timeouts None operation_code service_action = Some InvalidFieldInCdb
codes_fault kind return_timeouts (Some options) operation_code service_action =
    operation_codes_fault kind (codes_asked return_timeouts options operation_code service_action)

abbrev pub codes_answer : Kind → (return_timeouts : Bool) → Option ReportingOptions → (operation_code service_action : ℕ) → Result (List ℕ) Condition
codes_answer kind return_timeouts None operation_code service_action = Err InvalidFieldInCdb
codes_answer kind return_timeouts (Some options) operation_code service_action =
    operation_codes kind (codes_asked return_timeouts options operation_code service_action)
