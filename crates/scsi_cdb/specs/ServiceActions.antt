-- The service actions of PERSISTENT RESERVE OUT by their codes, and back (SPC-4, "PERSISTENT RESERVE OUT command").
use Rattle.std.specs.Prelude.{ℕ, ◌==◌, if◌then◌else◌, Option, None, Some}
use Rattle.scsi_cdb.specs.declared.service_action.OutServiceAction.{OutServiceAction}
use Rattle.scsi_cdb.specs.declared.service_action.OutServiceAction.TheVariants as out_act

abbrev pub out_service_action : ℕ → Option OutServiceAction
out_service_action code =
    if code == 0x00 then Some out_act.Register
    else if code == 0x01 then Some out_act.Reserve
    else if code == 0x02 then Some out_act.Release
    else if code == 0x03 then Some out_act.Clear
    else if code == 0x04 then Some out_act.Preempt
    else if code == 0x05 then Some out_act.PreemptAndAbort
    else if code == 0x06 then Some out_act.RegisterAndIgnoreExistingKey
    else if code == 0x07 then Some out_act.RegisterAndMove
    else None

abbrev pub out_code : OutServiceAction → ℕ
out_code out_act.Register = 0x00
out_code out_act.Reserve = 0x01
out_code out_act.Release = 0x02
out_code out_act.Clear = 0x03
out_code out_act.Preempt = 0x04
out_code out_act.PreemptAndAbort = 0x05
out_code out_act.RegisterAndIgnoreExistingKey = 0x06
out_code out_act.RegisterAndMove = 0x07
