-- What comes of what happens to the tasks of a session. `notes s d t` says that a call with the answer d makes t of the service s, and
-- `waits d ticket` what the reply in d waits for, if it has to wait.
use Rattle.std.specs.Prelude.{◌≡◌, ℕ, zero, suc, min, Bool, true, false, List, [], ◌∷◌, ◌++◌, length, take, Option, Some, None, is_some, Result, Ok, Err, OnOk, ◌⊎◌}
use Rattle.scsi_nexus.specs.declared.nexus.Nexus.{Nexus}
use Rattle.scsi_sense.specs.declared.sense.Sense.{Sense}
use Rattle.scsi_sense.specs.declared.status.Status.{Status}
use Rattle.scsi_sense.specs.declared.status.Status.TheVariants.{CheckCondition}
use Rattle.judgement.specs.Replies.{AnswersAbsent}
use Rattle.judgement.specs.declared.reply.Reply.{Reply}
use Rattle.logical_unit.specs.Answers as event
use Rattle.logical_unit.specs.Answers.{DoneValue, IsAnswer}
use Rattle.iscsi_pdu.specs.Luns.{unit_of}
use Rattle.iscsi_pdu.specs.Pdus.{TargetPduValue}
use Rattle.iscsi_pdu.specs.declared.serial_number.SerialNumber.{SerialNumber}
use Rattle.iscsi_pdu.specs.declared.reject_reason.RejectReason.{RejectReason}
use Rattle.iscsi_pdu.specs.declared.scsi_command.ScsiCommand.{ScsiCommand}
use Rattle.iscsi_pdu.specs.declared.target_header.TargetHeader.TheVariants as header
use Rattle.iscsi_tasks.specs.Values.{TasksValue}
use Rattle.iscsi_tasks.specs.declared.held_reply.UnitReply.{UnitReply}
use Rattle.iscsi_tasks.specs.Commands as tasks
use Rattle.iscsi_tasks.specs.DataOuts.{data_answer}
use Rattle.iscsi_tasks.specs.Next.{next_of, ready_to_transfer}
use Rattle.iscsi_tasks.specs.Runs.{Act, Numbered, Commanded, DataCame, AskedNext, Aborted, Dropped, Answered, Held, Settled, stepped}
use Rattle.iscsi_tasks.specs.Windows.{max_cmd_sn}
use Rattle.iscsi_tasks.specs.Writes.{additional_sense}
use Rattle.iscsi_tasks.specs.declared.fault.TaskFault.{TaskFault}
use Rattle.iscsi_tasks.specs.declared.fault.TasksFault.{TasksFault}
use Rattle.iscsi_tasks.specs.declared.next_task.NextTask.{NextTask}
use Rattle.iscsi_tasks.specs.declared.next_task.NextTask.TheVariants as found
use Rattle.iscsi_tasks.specs.declared.next_task.TransferRequest.{TransferRequest}
use Rattle.iscsi_tasks.specs.declared.taken.TakenCommand.{TakenCommand}
use Rattle.iscsi_tasks.specs.declared.taken.TakenCommand.TheVariants as taken
use Rattle.iscsi_tasks.specs.declared.taken.TakenData.{TakenData}
use Rattle.iscsi_tasks.specs.declared.taken.TakenData.TheVariants as taken_data
use Rattle.iscsi_answers.specs.Single.{pdu, rejection}
use Rattle.tickets.specs.declared.ticket.ReplyTicket.{ReplyTicket}
use Rattle.iscsi_answers.specs.CommandAnswers.{answered_command, command_answer, data_before}
use Rattle.iscsi_answers.specs.Written.{bytes_of_all}
use Rattle.iscsi_answers.specs.declared.limits.TransferLimits.{TransferLimits}
use Rattle.iscsi_answers.specs.declared.sequence.SequenceNumbers.{SequenceNumbers}

-- the numbers that stand in an answer: its StatSN, and those of the tasks
abbrev pub numbers : TasksValue → (stat_sn : SerialNumber) → SequenceNumbers
numbers k stat_sn = record { stat_sn = stat_sn; exp_cmd_sn = k.exp_cmd_sn; max_cmd_sn = max_cmd_sn k }

-- what something that happens to the tasks comes to: a command is to be executed with its data, or to be answered as failed, data are to be
-- asked for, a PDU is to be rejected, or nothing is to be done
pub data Outcome : Type 0 where
  Nothing : Outcome
  Execute : ScsiCommand → (bytes : List ℕ) → Outcome
  Fail : ScsiCommand → TaskFault → Outcome
  Ask : TransferRequest → Outcome
  Reject : RejectReason → Outcome

abbrev pub next_outcome : NextTask → Outcome
next_outcome found.Idle = Nothing
next_outcome (found.Execute t) = Execute t.command t.bytes
next_outcome (found.Fail t fault) = Fail t.command fault
next_outcome (found.Ask request) = Ask request

abbrev pub command_outcome : ScsiCommand → (payload : List ℕ) → Result TakenCommand TasksFault → Outcome
command_outcome c payload (Ok taken.PassedOver) = Nothing
command_outcome c payload (Ok taken.Waits) = Nothing
command_outcome c payload (Ok (taken.Rejected reason)) = Reject reason
command_outcome c payload (Ok (taken.Execute count)) = Execute c (take count payload)
command_outcome c payload (Err fault) = Nothing

abbrev pub data_outcome : Result TakenData TasksFault → Outcome
data_outcome (Ok taken_data.Taken) = Nothing
data_outcome (Ok taken_data.PassedOver) = Nothing
data_outcome (Ok (taken_data.Rejected reason)) = Reject reason
data_outcome (Err fault) = Nothing

abbrev pub outcome : TasksValue → Act → Outcome
outcome k (Commanded c payload) = command_outcome c payload (tasks.command_answer k c payload)
outcome k (DataCame d payload) = data_outcome (data_answer k d (length payload))
outcome k AskedNext = next_outcome (next_of k)
outcome k (Numbered immediate cmd_sn) = Nothing
outcome k (Aborted unit tag) = Nothing
outcome k (Dropped unit by_another) = Nothing
outcome k Answered = Nothing
outcome k (Held reply ticket) = Nothing
outcome k (Settled ticket by) = Nothing

-- what answers a command to which its unit has replied so
abbrev pub answer_to : TasksValue → TransferLimits → SerialNumber → ScsiCommand → (handed_over : ℕ) → Status → Option Sense
    → (bytes : List ℕ) → List TargetPduValue
answer_to k limits stat_sn command handed_over status sense bytes =
    command_answer limits (numbers k stat_sn) (answered_command command handed_over) status sense bytes

-- the data that go out before a reply that is held
abbrev pub data_of : TasksValue → TransferLimits → SerialNumber → ScsiCommand → (handed_over : ℕ) → (bytes : List ℕ) → List TargetPduValue
data_of k limits stat_sn command handed_over bytes = data_before limits (numbers k stat_sn) (answered_command command handed_over) bytes

-- a command is handed to the unit of its LUN with these data, once, and this is what the unit has replied to that very call, and what that waits
-- for; or its LUN is no unit's number, this is what a unit that doesn't exist replies, it waits for nothing, and nothing happens at the service
abbrev pub Replies : {S : Type 0} → (S → DoneValue → S → Type 0) → (DoneValue → Option ReplyTicket → Type 0) → Nexus → S → (unit : Option ℕ)
    → (cdb bytes : List ℕ) → Reply → Option ReplyTicket → S → Type 0
Replies notes waits n s (Some unit) cdb bytes reply ticket t =
    (done : DoneValue) × IsAnswer done (Some n) unit (event.Command cdb bytes) × notes s done t × (reply ≡ done.reply) × waits done ticket
Replies notes waits n s None cdb bytes reply ticket t = AnswersAbsent cdb reply × (ticket ≡ None) × (t ≡ s)

-- a reply as it is held, behind its data, which went out in so many Data-In
abbrev pub held_reply : Reply → (handed_over data_ins : ℕ) → UnitReply
held_reply reply handed_over data_ins = record {
  handed_over = handed_over;
  status = reply.status;
  sense = reply.sense;
  data_length = length reply.payload;
  data_ins = data_ins;
}

-- a reply that waits for nothing answers the command in hand at once, with the numbers of the tasks behind it; of one that waits the data are sent,
-- and it is held
abbrev pub AnswersOrHolds : TasksValue → ScsiCommand → (handed_over : ℕ) → Reply → Option ReplyTicket → (said : List TargetPduValue) → TasksValue
    → Type 0
AnswersOrHolds k command handed_over reply None said k' =
    (limits : TransferLimits) × (stat_sn : SerialNumber) × (k' ≡ stepped k Answered)
    × (said ≡ answer_to k' limits stat_sn command handed_over reply.status reply.sense reply.payload)
AnswersOrHolds k command handed_over reply (Some ticket) said k' =
    (limits : TransferLimits) × (stat_sn : SerialNumber) × (said ≡ data_of k limits stat_sn command handed_over reply.payload)
    × (k' ≡ stepped k (Held (held_reply reply handed_over (length said)) ticket))

-- a command is executed with these data, and its reply answers it or is held
pub record Executes {S : Type 0} (notes : S → DoneValue → S → Type 0) (waits : DoneValue → Option ReplyTicket → Type 0) (n : Nexus) (s : S)
    (k : TasksValue) (command : ScsiCommand) (bytes : List ℕ) (said : List TargetPduValue) (k' : TasksValue) (t : S) : Type 0 where
  pub reply : Reply
  pub ticket : Option ReplyTicket
  pub replied : Replies notes waits n s (unit_of command.lun) command.cdb bytes reply ticket t
  pub says : AnswersOrHolds k command (min (length bytes) 0xFFFFFFFF) reply ticket said k'

-- what is to be executed or answered as failed is in hand
abbrev pub HasInHand : Outcome → TasksValue → Type 0
HasInHand Nothing k = Unit {0}
HasInHand (Execute command bytes) k = is_some k.in_hand ≡ true
HasInHand (Fail command fault) k = Unit {0}
HasInHand (Ask request) k = Unit {0}
HasInHand (Reject reason) k = Unit {0}

-- ABORTED COMMAND, 0Bh, and why
abbrev pub aborted : TaskFault → Sense
aborted fault = record {
  valid = false;
  filemark = false;
  eom = false;
  ili = false;
  key = 0x0B;
  information = 0;
  asc = (additional_sense fault).0;
  ascq = (additional_sense fault).1;
}

abbrev pub failure : TasksValue → TransferLimits → SerialNumber → ScsiCommand → TaskFault → List TargetPduValue
failure k limits stat_sn command fault = answer_to k limits stat_sn command 0 CheckCondition (Some (aborted fault)) []

-- an R2T
abbrev pub demand : TasksValue → SerialNumber → TransferRequest → List TargetPduValue
demand k stat_sn request = pdu (header.ReadyToTransfer (ready_to_transfer request stat_sn k.exp_cmd_sn (max_cmd_sn k))) [] ∷ []

-- a PDU is rejected, by its header
abbrev pub refusal : TasksValue → SerialNumber → RejectReason → (rejected : List ℕ) → List TargetPduValue
refusal k stat_sn reason rejected = rejection (numbers k stat_sn) reason rejected ∷ []

-- what is to be done is done, and these PDUs are what is said; a command that is answered is in hand no longer
abbrev pub Does : {S : Type 0} → (S → DoneValue → S → Type 0) → (DoneValue → Option ReplyTicket → Type 0) → Nexus → S → TasksValue → Outcome → (said : List TargetPduValue) → TasksValue
    → S → Type 0
Does notes waits n s k Nothing said k' t = (said ≡ []) × (k' ≡ k) × (t ≡ s)
Does notes waits n s k (Execute command bytes) said k' t = Executes notes waits n s k command bytes said k' t
Does notes waits n s k (Fail command fault) said k' t = (limits : TransferLimits) × (stat_sn : SerialNumber) × (k' ≡ stepped k Answered)
    × (said ≡ failure k' limits stat_sn command fault) × (t ≡ s)
Does notes waits n s k (Ask request) said k' t = (stat_sn : SerialNumber) × (said ≡ demand k stat_sn request) × (k' ≡ k) × (t ≡ s)
Does notes waits n s k (Reject reason) said k' t = (stat_sn : SerialNumber) × (rejected : List ℕ) × (said ≡ refusal k stat_sn reason rejected)
    × (k' ≡ k) × (t ≡ s)

-- what is said where a unit isn't concerned
abbrev pub Tells : TasksValue → Outcome → (said : List TargetPduValue) → Type 0
Tells k Nothing said = said ≡ []
Tells k (Reject reason) said = (stat_sn : SerialNumber) × (rejected : List ℕ) × (said ≡ refusal k stat_sn reason rejected)
Tells k (Execute command bytes) said = ⊥
Tells k (Fail command fault) said = ⊥
Tells k (Ask request) said = ⊥

-- something happens to the tasks, and what that comes to is done
abbrev pub Acts : {S : Type 0} → (S → DoneValue → S → Type 0) → (DoneValue → Option ReplyTicket → Type 0) → Nexus → TasksValue → S → Act → (said : List TargetPduValue) → TasksValue → S
    → Type 0
Acts notes waits n k s act said k' t = Does notes waits n s (stepped k act) (outcome k act) said k' t

-- what is to be done next is done, so many times
unfoldable pub GoesOn : {S : Type 0} → (S → DoneValue → S → Type 0) → (DoneValue → Option ReplyTicket → Type 0) → Nexus → (times : ℕ) → TasksValue → S
    → (said : List TargetPduValue) → TasksValue → S → Type 0
GoesOn notes waits n zero k s said k' t = (said ≡ []) × (k' ≡ k) × (t ≡ s)
GoesOn {S} notes waits n (suc times) k s said k' t =
    (k1 : TasksValue) × (m : S) × (first last : List TargetPduValue) × (said ≡ first ++ last)
    × GoesOn notes waits n times k s first k1 m × Acts notes waits n k1 m AskedNext last k' t

abbrev pub is_idle : NextTask → Bool
is_idle found.Idle = true
is_idle (found.Execute t) = false
is_idle (found.Ask request) = false
is_idle (found.Fail t fault) = false

-- without a fault the bytes of these PDUs were added
abbrev pub Adds : {A F : Type 0} → Result A F → (out out' : List ℕ) → List TargetPduValue → Type 0
Adds result out out' said = OnOk result (out' ≡ out ++ bytes_of_all said)

-- that, or by a fault something else
abbrev pub OrElse : {A F : Type 0} → Result A F → (other : Type 0) → Type 0 → Type 0
OrElse (Ok value) other P = P
OrElse (Err fault) other P = P ⊎ other
