-- The command that a CDB and the data sent with it decode to, its class, and what a record says was asked.
use Rattle.std.specs.Prelude.{ℕ, Bool, true, false, List, Option, Some, None, Result, Ok, Err}
use Rattle.scsi_cdb.specs.declared.profile.CommandSet.{CommandSet}
use Rattle.scsi_cdb.specs.declared.classes.Class.{Class}
use Rattle.scsi_cdb.specs.declared.classes.Class.TheVariants as class
use Rattle.scsi_cdb.specs.declared.request.Request.{Request}
use Rattle.scsi_cdb.specs.declared.request.Request.TheVariants.{PreventAllowMediumRemoval, PersistentReserveIn, PersistentReserveOut, Inquiry, ReportLuns, RequestSense}
use Rattle.scsi_cdb.specs.Classes.{class_of_action}
use Rattle.scsi_cdb.specs.Classes.{class_of}
use Rattle.scsi_cdb.specs.Commands.{decoded}
use Rattle.scsi_sense.specs.declared.condition.Condition.{Condition}
use Rattle.scsi_sense.specs.declared.condition.Condition.TheVariants.{ParameterListLengthError}
use Rattle.pr_params.specs.Lists as lists
use Rattle.permit_tables.specs.declared.out_params.OutParams.{OutParams}
use Rattle.audit_log.specs.declared.act.Act.{Act}
use Rattle.audit_log.specs.declared.act.Act.TheVariants as act
use Rattle.judgement.specs.declared.command.Command.{Command}
use Rattle.judgement.specs.declared.command.Command.TheVariants as command
use Rattle.judgement.specs.declared.command.Command.TheVariants.{ReserveOut, ReserveIn, Device}
use Rattle.judgement.specs.Conditions.{condition_of_fault}

-- a request with the data sent with it: only PERSISTENT RESERVE OUT's are looked at here, and only their length is a fault
abbrev pub command_of : Request → List ℕ → Result Command Condition
command_of (PersistentReserveOut action scope_type list_length) bytes =
    elim (lists.decoded_list action scope_type list_length bytes) [ Ok params ↦ Ok (ReserveOut params) | Err fault ↦ Err ParameterListLengthError ]
command_of (PersistentReserveIn action allocation_length) bytes = Ok (ReserveIn action allocation_length)
command_of (Inquiry evpd page allocation_length) bytes = Ok (command.Inquiry evpd page allocation_length)
command_of (ReportLuns select allocation_length) bytes = Ok (command.ReportLuns select allocation_length)
command_of (RequestSense desc allocation_length) bytes = Ok (command.RequestSense desc allocation_length)
command_of (PreventAllowMediumRemoval prevent) bytes = Ok (command.Prevent prevent)
command_of request bytes = Ok (Device request)

-- the command, or what is reported of bytes that decode to none
abbrev pub decoded_command : CommandSet → (cdb bytes : List ℕ) → Result Command Condition
decoded_command commands cdb bytes = elim (decoded commands cdb) [ Ok request ↦ command_of request bytes | Err fault ↦ Err (condition_of_fault fault) ]

abbrev pub class_of_command : Command → Class
class_of_command (ReserveOut params) = class_of_action params.act
class_of_command (ReserveIn action allocation_length) = class.PersistentReserveIn
class_of_command (command.Inquiry evpd page allocation_length) = class.Inquiry
class_of_command (command.ReportLuns select allocation_length) = class.ReportLuns
class_of_command (command.RequestSense desc allocation_length) = class.RequestSense
class_of_command (command.Prevent prevent) = class_of (PreventAllowMediumRemoval prevent)
class_of_command (Device request) = class_of request

-- the classes that pass over the attentions that wait for their sender (SPC-4, "Unit attention condition")
abbrev pub passes_over : Class → Bool
passes_over class.Inquiry = true
passes_over class.ReportLuns = true
passes_over class.RequestSense = true
passes_over class = false

-- the parameter list of PERSISTENT RESERVE OUT
abbrev pub list_of : Command → Option OutParams
list_of (ReserveOut params) = Some params
list_of command = None

-- whether bytes decode to PERSISTENT RESERVE OUT
abbrev pub is_reserve_out : Result Command Condition → Bool
is_reserve_out (Ok (ReserveOut params)) = true
is_reserve_out decoded_command = false

-- what a record says was asked: a class, and for PERSISTENT RESERVE OUT its list; INVALID of bytes that decode to no command
abbrev pub act_of_command : Command → Act
act_of_command (ReserveOut params) = act.ReserveOut params
act_of_command command = act.Command (class_of_command command)

abbrev pub act_of_decoded : Result Command Condition → Act
act_of_decoded (Ok command) = act_of_command command
act_of_decoded (Err condition) = act.Invalid

abbrev pub act_of : CommandSet → (cdb bytes : List ℕ) → Act
act_of commands cdb bytes = act_of_decoded (decoded_command commands cdb bytes)
