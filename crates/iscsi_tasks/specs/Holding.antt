-- Replies that are held until what they wait for is settled (profile).
use Rattle.std.specs.Prelude.{ℕ, ◌==◌, Bool, true, false, not, ◌&&◌, List, [], ◌∷◌, ◌++◌, length, map, filter, Option, Some, None}
use Rattle.std.specs.List.{list_any}
use Rattle.iscsi_pdu.specs.declared.scsi_command.ScsiCommand.{ScsiCommand}
use Rattle.tickets.specs.declared.ticket.ReplyTicket.{ReplyTicket}
use Rattle.tickets.specs.declared.ticket.RecordTicket.{RecordTicket}
use Rattle.tickets.specs.declared.ticket.Ticket.{Ticket}
use Rattle.tickets.specs.declared.ticket.Outcome.{Outcome}
use Rattle.tickets.specs.declared.ticket.Outcome.TheVariants.{Kept, Lost}
use Rattle.iscsi_tasks.specs.declared.held_reply.UnitReply.{UnitReply}
use Rattle.iscsi_tasks.specs.declared.held_reply.HeldReply.{HeldReply}
use Rattle.iscsi_tasks.specs.declared.held_reply.Response.{Response}
use Rattle.iscsi_tasks.specs.declared.held_reply.Response.TheVariants.{Replied, TargetFailure}
use Rattle.iscsi_tasks.specs.declared.held_reply.DueAnswer.{DueAnswer}
use Rattle.iscsi_tasks.specs.Values.{TasksValue}

abbrev pub is_same : Option Ticket → Option Ticket → Bool
is_same (Some a) (Some b) = (a.thing == b.thing) && (a.number == b.number)
is_same None None = true
is_same (Some a) None = false
is_same None (Some b) = false

abbrev pub is_same_record : Option RecordTicket → Option RecordTicket → Bool
is_same_record (Some a) (Some b) = (a.lun == b.lun) && (a.number == b.number)
is_same_record None None = true
is_same_record (Some a) None = false
is_same_record None (Some b) = false

-- it waits for that very ticket: others of the same thing may have ended otherwise
abbrev pub is_due : (settled : ReplyTicket) → HeldReply → Bool
is_due settled r = is_same r.ticket.kept settled.kept && is_same_record r.ticket.handed_out settled.handed_out

-- what leaves, and what stays, in the order in which they came
abbrev pub due : (settled : ReplyTicket) → List HeldReply → List HeldReply
due settled replies = filter (is_due settled) replies

abbrev pub not_due : (settled : ReplyTicket) → List HeldReply → List HeldReply
not_due settled replies = filter (λ r. not (is_due settled r)) replies

-- target failure exactly where it could not be kept
abbrev pub response_by : Outcome → UnitReply → Response
response_by Kept reply = Replied reply
response_by Lost reply = TargetFailure

abbrev pub answer_by : Outcome → HeldReply → DueAnswer
answer_by outcome r = record { command = r.command; response = response_by outcome r.reply }

abbrev pub answers_due : (settled : ReplyTicket) → Outcome → List HeldReply → List DueAnswer
answers_due settled outcome replies = map (answer_by outcome) (due settled replies)

-- the reply to the command in hand
abbrev pub held_for : UnitReply → ReplyTicket → Option ScsiCommand → List HeldReply
held_for reply ticket None = []
held_for reply ticket (Some c) = record { command = c; reply = reply; ticket = ticket } ∷ []

-- it is held, and its command is in hand no longer
abbrev pub with_held : TasksValue → UnitReply → ReplyTicket → TasksValue
with_held s reply ticket = record s { in_hand = None; replies = s.replies ++ held_for reply ticket s.in_hand }

abbrev pub without_due : TasksValue → (settled : ReplyTicket) → TasksValue
without_due s settled = record s { replies = not_due settled s.replies }

abbrev pub holds_none : TasksValue → Bool
holds_none s = length s.replies == 0

-- the reply to the command with the tag
abbrev pub is_reply_to : (tag : ℕ) → HeldReply → Bool
is_reply_to tag r = r.command.initiator_task_tag == tag

abbrev pub is_held : TasksValue → (tag : ℕ) → Bool
is_held s tag = list_any (is_reply_to tag) s.replies
