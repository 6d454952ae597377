-- A command that a CDB decodes to for the device is none that every unit has, so what it changes of what is kept are the attentions
-- that it tells the others alone; and bytes that decode to none are reported by three conditions.
use Rattle.std.proofs.Common.{◌≡◌, ℕ, Bool, true, false, List, Option, Result, Ok, Err, refl}
use Rattle.std.specs.Prelude.{cond}
use Rattle.scsi_cdb.specs.declared.classes.Class.{Class}
use Rattle.scsi_cdb.specs.declared.classes.Class.TheVariants as class
use Rattle.scsi_cdb.specs.declared.fault.CdbFault.{CdbFault}
use Rattle.scsi_cdb.specs.declared.fault.CdbFault.TheVariants.{Opcode, ShortCdb, ServiceAction, Naca}
use Rattle.scsi_cdb.specs.declared.profile.CommandSet.{CommandSet}
use Rattle.scsi_cdb.specs.declared.host_request.HostRequest.TheVariants as host_request
use Rattle.scsi_cdb.specs.declared.request.Request.{Request}
use Rattle.scsi_cdb.specs.declared.request.Request.TheVariants as request
use Rattle.scsi_cdb.specs.Classes.{class_of}
use Rattle.scsi_cdb.specs.Commands.{decoded}
use Rattle.scsi_nexus.specs.declared.nexus.Nexus.{Nexus}
use Rattle.scsi_sense.specs.declared.condition.Condition.{Condition}
use Rattle.scsi_sense.specs.declared.condition.Condition.TheVariants.{ParameterListLengthError}
use Rattle.pr_params.specs.Lists as lists
use Rattle.permit_tables.specs.declared.out_params.OutParams.{OutParams}
use Rattle.pr_params.specs.declared.list_fault.ListLengthFault.{ListLengthFault}
use Rattle.unit_attention.specs.declared.kind.Kind as attention
use Rattle.judgement.specs.declared.command.Command.{Command}
use Rattle.judgement.specs.declared.command.Command.TheVariants.{ReserveOut, Device}
use Rattle.judgement.specs.Commands.{command_of, decoded_command}
use Rattle.judgement.specs.Conditions.{condition_of_fault}
use Rattle.judgement.specs.UnitStateView.{UnitStateView}
use Rattle.judgement.specs.UnitState.{after_telling}
use Rattle.logical_unit.specs.Legal.{left_by_class, is_reserve_out, is_of_every_unit, is_of_decoding}

abbrev pub TellsNothing : Class → Type 0
TellsNothing class = (k : UnitStateView) (n : Nexus) (told : Option attention.Kind) → after_telling k n told ≡ left_by_class k n class told

-- a class of the device's own
pub record IsOwn (class : Class) : Type 0 where
  pub tells : TellsNothing class
  pub listless : is_reserve_out class ≡ false
  pub own : is_of_every_unit class ≡ false

abbrev pub IsPlain : Command → Type 0
IsPlain (Device r) = IsOwn (class_of r)
IsPlain c = Unit {0}

abbrev pub IsPlainIf : Result Command Condition → Type 0
IsPlainIf (Ok c) = IsPlain c
IsPlainIf (Err condition) = is_of_decoding condition ≡ true

list_plain : (o : Result OutParams ListLengthFault) → IsPlainIf (elim o [ Ok params ↦ Ok (ReserveOut params) | Err fault ↦ Err ParameterListLengthError ])
list_plain (Ok params) = tt
list_plain (Err fault) = refl

either_own : (b : Bool) (x y : Class) → IsOwn x → IsOwn y → IsOwn (cond b x y)
either_own true x y p q = p
either_own false x y p q = q

request_plain : (r : Request) (bytes : List ℕ) → IsPlainIf (command_of r bytes)
request_plain request.TestUnitReady bytes = record { tells = λ k n told. refl; listless = refl; own = refl }
request_plain request.Rewind bytes = record { tells = λ k n told. refl; listless = refl; own = refl }
request_plain (request.RequestSense desc l) bytes = tt
request_plain request.ReadBlockLimits bytes = record { tells = λ k n told. refl; listless = refl; own = refl }
request_plain request.InitializeElementStatus bytes = record { tells = λ k n told. refl; listless = refl; own = refl }
request_plain (request.Read sili fixed l) bytes = record { tells = λ k n told. refl; listless = refl; own = refl }
request_plain (request.Write fixed l) bytes = record { tells = λ k n told. refl; listless = refl; own = refl }
request_plain (request.WriteFilemarks wsmk immed l) bytes = record { tells = λ k n told. refl; listless = refl; own = refl }
request_plain (request.Space code l) bytes = record { tells = λ k n told. refl; listless = refl; own = refl }
request_plain (request.Inquiry evpd page l) bytes = tt
request_plain (request.ModeSelect sp l) bytes = record { tells = λ k n told. refl; listless = refl; own = refl }
request_plain request.Erase bytes = record { tells = λ k n told. refl; listless = refl; own = refl }
request_plain (request.ModeSense dbd pc page subpage l) bytes = record { tells = λ k n told. refl; listless = refl; own = refl }
request_plain (request.LoadUnload hold eot load) bytes = record { tells = λ k n told. refl; listless = refl; own = refl }
request_plain (request.PreventAllowMediumRemoval prevent) bytes = tt
request_plain (request.Locate bt cp l partition) bytes = record { tells = λ k n told. refl; listless = refl; own = refl }
request_plain request.ReadPosition bytes = record { tells = λ k n told. refl; listless = refl; own = refl }
request_plain (request.PersistentReserveIn action l) bytes = tt
request_plain (request.ReportLuns select l) bytes = tt
request_plain (request.MoveMedium transport source destination invert) bytes = record { tells = λ k n told. refl; listless = refl; own = refl }
request_plain (request.PersistentReserveOut action scope_type l) bytes = list_plain (lists.decoded_list action scope_type l bytes)
request_plain (request.ReadElementStatus voltag type_code start count curdata dvcid l) bytes =
    either_own curdata class.ReadElementStatusCurdata class.ReadElementStatus (record { tells = λ k n told. refl; listless = refl; own = refl }) (record { tells = λ k n told. refl; listless = refl; own = refl })
request_plain (request.Host (host_request.SendDiagnostic code test l)) bytes = record { tells = λ k n told. refl; listless = refl; own = refl }
request_plain (request.Host (host_request.LogSelect pcr sp pc page subpage l)) bytes = record { tells = λ k n told. refl; listless = refl; own = refl }
request_plain (request.Host (host_request.LogSense ppc sp pc page subpage pointer l)) bytes = record { tells = λ k n told. refl; listless = refl; own = refl }
request_plain (request.Host (host_request.ModeSelect10 sp l)) bytes = record { tells = λ k n told. refl; listless = refl; own = refl }
request_plain (request.Host (host_request.ModeSense10 dbd pc page subpage l)) bytes = record { tells = λ k n told. refl; listless = refl; own = refl }
request_plain (request.Host (host_request.ReportSupportedOperationCodes rctd options code action l)) bytes = record { tells = λ k n told. refl; listless = refl; own = refl }
request_plain (request.Host (host_request.ReportSupportedTaskManagementFunctions repd l)) bytes = record { tells = λ k n told. refl; listless = refl; own = refl }
request_plain (request.Host (host_request.PositionToElement transport destination invert)) bytes = record { tells = λ k n told. refl; listless = refl; own = refl }
request_plain (request.Host (host_request.ExchangeMedium transport source first second inv1 inv2)) bytes = record { tells = λ k n told. refl; listless = refl; own = refl }
request_plain (request.Host (host_request.InitializeElementStatusWithRange fast range start count)) bytes = record { tells = λ k n told. refl; listless = refl; own = refl }

fault_plain : (fault : CdbFault) → is_of_decoding (condition_of_fault fault) ≡ true
fault_plain Opcode = refl
fault_plain ShortCdb = refl
fault_plain ServiceAction = refl
fault_plain Naca = refl

pub decoded_plain : (commands : CommandSet) (cdb bytes : List ℕ) → IsPlainIf (decoded_command commands cdb bytes)
decoded_plain commands cdb bytes =
    elim (decoded commands cdb) as (λ (o : Result Request CdbFault). IsPlainIf (elim o [ Ok request ↦ command_of request bytes | Err fault ↦ Err (condition_of_fault fault) ])) [
      | Ok request ↦ request_plain request bytes
      | Err fault ↦ fault_plain fault
    ]
