-- What a session hands to its units, against what its tasks execute. `notes s d t` says that a call with the answer d makes t of the service s.
use Rattle.std.specs.Prelude.{◌≡◌, ℕ, min, List, [], ◌∷◌, ◌++◌, length, map, Option, Some, None}
use Rattle.std.specs.List.{AllByRecursion, flat_map}
use Rattle.scsi_nexus.specs.declared.nexus.Nexus.{Nexus}
use Rattle.logical_unit.specs.Answers as event
use Rattle.logical_unit.specs.Answers.{DoneValue, EventValue}
use Rattle.iscsi_pdu.specs.Luns.{unit_of}
use Rattle.iscsi_pdu.specs.declared.initiator_header.InitiatorHeader.{InitiatorHeader}
use Rattle.iscsi_pdu.specs.declared.initiator_header.InitiatorHeader.TheVariants as sent
use Rattle.iscsi_tasks.specs.Runs.{Act, Numbered, Commanded, DataCame, AskedNext, Aborted, Dropped, Answered, Held, Settled, Executed}
use Rattle.iscsi_tasks.specs.Runs.{executed, run}
use Rattle.iscsi_tasks.specs.HeldRuns.{held_in}
use Rattle.iscsi_tasks.specs.Values.{TasksValue}
use Rattle.iscsi_tasks.specs.declared.held_reply.HeldReply.{HeldReply}
use Rattle.judgement.specs.Replies.{AnswersAbsent}
use Rattle.judgement.specs.declared.reply.Reply.{Reply}
use Rattle.tickets.specs.declared.ticket.ReplyTicket.{ReplyTicket}
use Rattle.session.specs.Answering.{Calls}
use Rattle.iscsi_session.specs.Executing.{held_reply}
use Rattle.iscsi_session.specs.Releasing.{Settlement}
use Rattle.iscsi_session.specs.Talking.{Came, Ending, Event, Released, Told, Silence}

-- the commands and data among the acts
abbrev pub brought : List Act → List Act
brought [] = []
brought (Commanded c payload ∷ acts) = Commanded c payload ∷ brought acts
brought (DataCame d payload ∷ acts) = DataCame d payload ∷ brought acts
brought (Numbered immediate cmd_sn ∷ acts) = brought acts
brought (AskedNext ∷ acts) = brought acts
brought (Aborted unit tag ∷ acts) = brought acts
brought (Dropped unit by_another ∷ acts) = brought acts
brought (Answered ∷ acts) = brought acts
brought (Held reply ticket ∷ acts) = brought acts
brought (Settled ticket outcome ∷ acts) = brought acts

-- and among PDUs
abbrev pub brought_by : InitiatorHeader → (payload : List ℕ) → List Act
brought_by (sent.ScsiCommand p) payload = Commanded p payload ∷ []
brought_by (sent.DataOut p) payload = DataCame p payload ∷ []
brought_by (sent.TaskManagementRequest p) payload = []
brought_by (sent.NopOut p) payload = []
brought_by (sent.TextRequest p) payload = []
brought_by (sent.LogoutRequest p) payload = []
brought_by (sent.LoginRequest p) payload = []
brought_by (sent.SnackRequest p) payload = []
brought_by (sent.Unknown p) payload = []

abbrev pub brought_in : List Event → List Act
brought_in [] = []
brought_in (Came p ∷ es) = brought_by p.header p.payload ++ brought_in es
brought_in (Silence ∷ es) = brought_in es
brought_in (Told units ∷ es) = brought_in es
brought_in (Ending seconds ∷ es) = brought_in es
brought_in (Released ticket outcome ∷ es) = brought_in es

-- a command that a unit is handed: the number of the unit, the CDB and the data
abbrev pub asked_command : (unit : ℕ) → EventValue → List (ℕ × EventValue)
asked_command unit (event.Command cdb bytes) = (unit, event.Command cdb bytes) ∷ []
asked_command unit event.Loss = []
asked_command unit event.Reset = []

-- the commands among calls
abbrev pub commands_of : List DoneValue → List (ℕ × EventValue)
commands_of [] = []
commands_of (d ∷ ds) = asked_command d.lun d.asked ++ commands_of ds

-- the call by which a command is executed at a unit; none where its LUN is no unit's number
abbrev pub call_for : (unit : Option ℕ) → (cdb bytes : List ℕ) → List (ℕ × EventValue)
call_for (Some unit) cdb bytes = (unit, event.Command cdb bytes) ∷ []
call_for None cdb bytes = []

-- what commands that are executed are as calls
abbrev pub handed : List Executed → List (ℕ × EventValue)
handed es = flat_map (λ e. call_for (unit_of e.command.lun) e.command.cdb e.bytes) es

-- a command that was executed: the call by which it was handed to its unit, if its LUN is a unit's number; the reply to it, and the ticket that
-- this waits for, if it has to wait, behind so many Data-In
pub record CarriedOut : Type 0 where
  pub executed : Executed
  pub call : Option DoneValue
  pub reply : Reply
  pub ticket : Option ReplyTicket
  pub data_ins : ℕ

abbrev pub RepliesTo : (waits : DoneValue → Option ReplyTicket → Type 0) → Executed → (unit : Option ℕ) → (call : Option DoneValue) → Reply
    → Option ReplyTicket → Type 0
RepliesTo waits e (Some unit) (Some done) reply ticket =
    (done.lun ≡ unit) × (done.asked ≡ event.Command e.command.cdb e.bytes) × (reply ≡ done.reply) × waits done ticket
RepliesTo waits e None None reply ticket = AnswersAbsent e.command.cdb reply × (ticket ≡ None)
RepliesTo waits e (Some unit) None reply ticket = ⊥
RepliesTo waits e None (Some done) reply ticket = ⊥

abbrev pub IsReplied : (waits : DoneValue → Option ReplyTicket → Type 0) → CarriedOut → Type 0
IsReplied waits x = RepliesTo waits x.executed (unit_of x.executed.command.lun) x.call x.reply x.ticket

-- the calls by which commands are handed over
abbrev pub command_call : DoneValue → EventValue → List DoneValue
command_call d (event.Command cdb bytes) = d ∷ []
command_call d event.Loss = []
command_call d event.Reset = []

abbrev pub command_calls : List DoneValue → List DoneValue
command_calls [] = []
command_calls (d ∷ ds) = command_call d d.asked ++ command_calls ds

abbrev pub call_list : Option DoneValue → List DoneValue
call_list None = []
call_list (Some d) = d ∷ []

abbrev pub calls_of : List CarriedOut → List DoneValue
calls_of xs = flat_map (λ x. call_list x.call) xs

-- the replies that wait
abbrev pub held_if : Executed → Reply → Option ReplyTicket → (data_ins : ℕ) → List HeldReply
held_if e reply None data_ins = []
held_if e reply (Some ticket) data_ins =
    record { command = e.command; reply = held_reply reply (min (length e.bytes) 0xFFFFFFFF) data_ins; ticket = ticket } ∷ []

abbrev pub held_of : List CarriedOut → List HeldReply
held_of xs = flat_map (λ x. held_if x.executed x.reply x.ticket x.data_ins) xs

-- the tickets that are settled, among acts and among what happens to a session
abbrev pub settled_by : Act → List Settlement
settled_by (Settled ticket outcome) = record { ticket = ticket; outcome = outcome } ∷ []
settled_by (Commanded c payload) = []
settled_by (DataCame d payload) = []
settled_by (Numbered immediate cmd_sn) = []
settled_by AskedNext = []
settled_by (Aborted unit tag) = []
settled_by (Dropped unit by_another) = []
settled_by Answered = []
settled_by (Held reply ticket) = []

abbrev pub settled_in : List Act → List Settlement
settled_in [] = []
settled_in (act ∷ acts) = settled_by act ++ settled_in acts

abbrev pub settlements : List Event → List Settlement
settlements [] = []
settlements (Released ticket outcome ∷ es) = record { ticket = ticket; outcome = outcome } ∷ settlements es
settlements (Came p ∷ es) = settlements es
settlements (Silence ∷ es) = settlements es
settlements (Told units ∷ es) = settlements es
settlements (Ending seconds ∷ es) = settlements es

-- these commands and data, and no others, are brought to the tasks, in this order; and of the calls that are made the commands are those that the
-- tasks execute and whose LUN is a unit's number, in the same order, each once and with the data that they have for it. Each command that is
-- executed has the reply to its own call, and the replies that are held are those that wait for a ticket, in this order, each once; the tickets that
-- are settled are these. What becomes of the replies that are held is for the laws of the tasks' acts to say
pub record Hands {S : Type 0} (notes : S → DoneValue → S → Type 0) (waits : DoneValue → Option ReplyTicket → Type 0) (n : Nexus) (k : TasksValue)
    (s : S) (brings : List Act) (settles : List Settlement) (k' : TasksValue) (t : S) : Type 0 where
  pub acts : List Act
  pub calls : List DoneValue
  pub run_is : k' ≡ run k acts
  pub brought_is : brought acts ≡ brings
  pub made : Calls notes n s calls t
  pub handed_is : commands_of calls ≡ handed (executed k acts)
  pub carried_out : List CarriedOut
  pub carried_out_are : map (λ x. x.executed) carried_out ≡ executed k acts
  pub replied : AllByRecursion (IsReplied waits) carried_out
  pub calls_are : command_calls calls ≡ calls_of carried_out
  pub holds : held_in k acts ≡ held_of carried_out
  pub settled : settled_in acts ≡ settles
