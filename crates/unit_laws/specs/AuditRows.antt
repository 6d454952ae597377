-- Worked rows: the audit lines of four commands, and what stands under an all registrants type.
use Rattle.std.specs.Prelude.{◌≡◌, ℕ, false, List, [], ◌∷◌, Option, Some, None, codes}
use Rattle.scsi_cdb.specs.declared.service_action.OutServiceAction.{OutServiceAction}
use Rattle.scsi_cdb.specs.declared.service_action.OutServiceAction.TheVariants as out
use Rattle.scsi_cdb.specs.declared.classes.Class.TheVariants as class
use Rattle.scsi_nexus.specs.declared.nexus.Nexus.{Nexus}
use Rattle.scsi_sense.specs.declared.status.Status.{Status}
use Rattle.scsi_sense.specs.declared.status.Status.TheVariants.{Good, CheckCondition, ReservationConflict}
use Rattle.permit_tables.specs.declared.cell.Cell.{Cell}
use Rattle.permit_tables.specs.declared.res_type.ResType.TheVariants as type
use Rattle.permit_tables.specs.declared.role.Role.TheVariants as role
use Rattle.permit_tables.specs.declared.out_params.OutParams.{OutParams}
use Rattle.pr_core.specs.State.{State, power_on}
use Rattle.audit_log.specs.declared.act.Act.{Act}
use Rattle.audit_log.specs.declared.act.Act.TheVariants as act
use Rattle.audit_log.specs.declared.record.Record.{Record}
use Rattle.audit_log.specs.declared.stage.Stage.{Stage}
use Rattle.audit_log.specs.declared.stage.Stage.TheVariants.{ResetAttention, ReservationCheck, Device}
use Rattle.logical_unit.specs.Audit.{span_lines}

abbrev pub a : Nexus
a = record { sas = 0x500000000000000A; port = 1 }

abbrev pub params : OutServiceAction → (rk sark scope_type : ℕ) → OutParams
params action rk sark scope_type =
    record { rk = rk; sark = sark; dest = None; act = action; scope_type = scope_type; unreg = false; defect = None; all_ports = false; listed = false; targets = record { items = [] } }

abbrev pub entry : (number : ℕ) → Act → Stage → Option Cell → Status → Record
entry number act stage cell status = record { number = number; nexus = Some a; act = act; stage = stage; cell = cell; rule = None; status = status; sense = None; told = None }

-- A's TEST UNIT READY, which tells it 29h/00h, its REGISTER and RESERVE of Write Exclusive, and TEST UNIT READY
abbrev pub four : List Record
four =
    entry 1 (act.Command class.TestUnitReady) ResetAttention None CheckCondition
    ∷ entry 2 (act.ReserveOut (params out.Register 0 1 0)) Device (Some (record { class = class.Register; res_type = type.None; role = role.Other })) Good
    ∷ entry 3 (act.ReserveOut (params out.Reserve 1 0 1)) Device (Some (record { class = class.Reserve; res_type = type.None; role = role.Registered })) Good
    ∷ entry 4 (act.Command class.TestUnitReady) Device (Some (record { class = class.TestUnitReady; res_type = type.We; role = role.Holder })) Good
    ∷ []

-- Write Exclusive of all registrants, which A's RELEASE ends; a RELEASE that conflicts ends nothing
abbrev pub shared : State
shared = record { keys = (a, 1) ∷ []; reservation = Some (type.Wear, a); generation = 1 }

abbrev pub release : (number : ℕ) → Stage → Status → Record
release number stage status = entry number (act.ReserveOut (params out.Release 1 0 7)) stage (Some (record { class = class.Release; res_type = type.Wear; role = role.Holder })) status

pub record AuditLines : Type 0 where
  pub from_power_on : span_lines power_on four
      ≡ codes "1 500000000000000a.1 TEST-UNIT-READY 2 - - 02 -"
      ∷ codes "2 500000000000000a.1 REGISTER 6 REGISTER/NONE/OTHER - 00 -"
      ∷ codes "3 500000000000000a.1 RESERVE 6 RESERVE/NONE/REGISTERED - 00 -"
      ∷ codes "4 500000000000000a.1 TEST-UNIT-READY 6 TEST-UNIT-READY/WE/HOLDER - 00 WE/500000000000000a.1"
      ∷ []
  -- the last line has what stood before its record, not after
  pub before : span_lines shared (release 7 ReservationCheck ReservationConflict ∷ release 8 Device Good ∷ release 9 Device Good ∷ [])
      ≡ codes "7 500000000000000a.1 RELEASE 3 RELEASE/WEAR/HOLDER - 18 WEAR/ALL"
      ∷ codes "8 500000000000000a.1 RELEASE 6 RELEASE/WEAR/HOLDER - 00 WEAR/ALL"
      ∷ codes "9 500000000000000a.1 RELEASE 6 RELEASE/WEAR/HOLDER - 00 -"
      ∷ []
  pub none : span_lines shared [] ≡ []
