-- What answers commands whose replies were held.
use Rattle.std.specs.Prelude.{◌≡◌, List, [], ◌∷◌, ◌++◌, All}
use Rattle.iscsi_pdu.specs.Pdus.{TargetPduValue}
use Rattle.iscsi_pdu.specs.declared.scsi_command.ScsiCommand.{ScsiCommand}
use Rattle.iscsi_pdu.specs.declared.serial_number.SerialNumber.{SerialNumber}
use Rattle.iscsi_answers.specs.CommandAnswers.{answered_command, late_response}
use Rattle.iscsi_answers.specs.Single.{target_failure}
use Rattle.iscsi_tasks.specs.Values.{TasksValue}
use Rattle.iscsi_tasks.specs.Holding.{answers_due}
use Rattle.iscsi_tasks.specs.Runs.{Settled, stepped}
use Rattle.iscsi_tasks.specs.declared.held_reply.DueAnswer.{DueAnswer}
use Rattle.iscsi_tasks.specs.declared.held_reply.Response.{Response}
use Rattle.iscsi_tasks.specs.declared.held_reply.Response.TheVariants.{Replied, TargetFailure}
use Rattle.tickets.specs.declared.ticket.ReplyTicket.{ReplyTicket}
use Rattle.tickets.specs.declared.ticket.Outcome.{Outcome}
use Rattle.iscsi_session.specs.Executing.{numbers}

-- what the unit has replied, or target failure (RFC 7143, "SCSI Response")
abbrev pub response_to : TasksValue → SerialNumber → ScsiCommand → Response → List TargetPduValue
response_to k stat_sn command (Replied reply) =
    late_response (numbers k stat_sn) (answered_command command reply.handed_over) reply.status reply.sense reply.data_length reply.data_ins ∷ []
response_to k stat_sn command TargetFailure = target_failure (numbers k stat_sn) command.initiator_task_tag ∷ []

-- one answer after another, each with a StatSN of its own
abbrev pub SaysDue : TasksValue → List DueAnswer → (said : List TargetPduValue) → Type 0
SaysDue k [] said = said ≡ []
SaysDue k (answer ∷ answers) said =
    (stat_sn : SerialNumber) × (others : List TargetPduValue)
    × (said ≡ response_to k stat_sn answer.command answer.response ++ others) × SaysDue k answers others

-- a ticket that was settled, and how
pub record Settlement : Type 0 where
  pub ticket : ReplyTicket
  pub outcome : Outcome

-- tickets are settled one after another, and the replies that waited for them answer their commands, with the numbers of the tasks without them
abbrev pub ReleasesAll : List Settlement → TasksValue → (said : List TargetPduValue) → TasksValue → Type 0
ReleasesAll [] k said k' = (said ≡ []) × (k' ≡ k)
ReleasesAll (x ∷ xs) k said k' =
    (first others : List TargetPduValue) × (said ≡ first ++ others)
    × SaysDue (stepped k (Settled x.ticket x.outcome)) (answers_due x.ticket x.outcome k.replies) first
    × ReleasesAll xs (stepped k (Settled x.ticket x.outcome)) others k'

-- those of which `settles` says so
abbrev pub Releases : (settles : ReplyTicket → Outcome → Type 0) → TasksValue → (said : List TargetPduValue) → TasksValue → Type 0
Releases settles k said k' = (settled : List Settlement) × All (λ x. settles x.ticket x.outcome) settled × ReleasesAll settled k said k'
