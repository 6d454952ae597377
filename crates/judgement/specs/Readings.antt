-- What is read off what a unit keeps: what the reservation check says of a command, the data of PERSISTENT RESERVE IN, and the attention
-- that waits.
use Rattle.std.specs.Prelude.{ℕ, List, Option, None, Some, if◌then◌else◌}
use Rattle.scsi_cdb.specs.declared.classes.Class.{Class}
use Rattle.scsi_cdb.specs.declared.action.InServiceAction.{InServiceAction}
use Rattle.scsi_cdb.specs.declared.action.InServiceAction.TheVariants.{ReadKeys, ReadReservation, ReportCapabilities, ReadFullStatus}
use Rattle.scsi_nexus.specs.declared.nexus.Nexus.{Nexus}
use Rattle.unit_attention.specs.declared.kind.Kind.{Kind}
use Rattle.unit_attention.specs.Queues.{Slots, first_reset_of, first_other_of}
use Rattle.permit_tables.specs.Permission.{is_allowed}
use Rattle.permit_tables.specs.declared.out_params.OutParams.{OutParams}
use Rattle.pr_params.specs.Status.{keys_data, reservation_data, full_status_data, capabilities_data}
use Rattle.pr_core.specs.State.{State, res_type, role, cell}
use Rattle.pr_core.specs.Judge.{verdict}
use Rattle.pr_core.specs.declared.verdict.Verdict.{Verdict}
use Rattle.pr_core.specs.declared.verdict.Verdict.TheVariants.{Allowed, Denied}
use Rattle.judgement.specs.declared.command.Command.{Command}
use Rattle.judgement.specs.Commands.{class_of_command, list_of}

-- the cell of the permission table, and for a parameter list of PERSISTENT RESERVE OUT then the rules on keys
abbrev pub verdict_by : State → Nexus → Option OutParams → Class → Verdict
verdict_by v n (Some params) class = verdict v n params
verdict_by v n None class = if is_allowed class (res_type v) (role v n) then Allowed else Denied (cell v n class)

abbrev pub verdict_of : State → Nexus → Command → Verdict
verdict_of v n command = verdict_by v n (list_of command) (class_of_command command)

-- the data of PERSISTENT RESERVE IN, uncut
abbrev pub status_data : State → InServiceAction → List ℕ
status_data v ReadKeys = keys_data v.generation v.keys
status_data v ReadReservation = reservation_data v.generation v.keys v.reservation
status_data v ReportCapabilities = capabilities_data
status_data v ReadFullStatus = full_status_data v.generation v.keys v.reservation

-- the attention that would be reported: the oldest of ASC 29h, else the oldest
abbrev pub pending_of : Slots → Nexus → Option Kind
pending_of q n = elim (first_reset_of q n) [ Some kind ↦ Some kind | None ↦ first_other_of q n ]
