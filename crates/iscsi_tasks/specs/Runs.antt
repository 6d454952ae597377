-- The tasks of a session from its first PDU on, and what comes out.
use Rattle.std.specs.Prelude.{◌≡◌, ◌⊎◌, ℕ, ◌+◌, ◌==◌, Bool, List, [], ◌∷◌, ◌++◌, length, take, map, None, Result, Ok, if◌then◌else◌}
use Rattle.iscsi_pdu.specs.declared.serial_number.SerialNumber.{SerialNumber}
use Rattle.iscsi_pdu.specs.declared.scsi_command.ScsiCommand.{ScsiCommand}
use Rattle.iscsi_pdu.specs.declared.data_out.DataOut.{DataOut}
use Rattle.iscsi_tasks.specs.declared.taken.TakenCommand.{TakenCommand}
use Rattle.iscsi_tasks.specs.declared.taken.TakenCommand.TheVariants as taken
use Rattle.iscsi_tasks.specs.declared.fault.TasksFault.{TasksFault}
use Rattle.iscsi_tasks.specs.declared.next_task.NextTask.{NextTask}
use Rattle.iscsi_tasks.specs.declared.next_task.NextTask.TheVariants as found
use Rattle.tickets.specs.declared.ticket.ReplyTicket.{ReplyTicket}
use Rattle.tickets.specs.declared.ticket.Outcome.{Outcome}
use Rattle.iscsi_tasks.specs.declared.held_reply.UnitReply.{UnitReply}
use Rattle.iscsi_tasks.specs.Values.{TaskValue, TasksValue}
use Rattle.iscsi_tasks.specs.Writes.{wanted}
use Rattle.iscsi_tasks.specs.Commands.{is_taken, counted, command_answer, after_command}
use Rattle.iscsi_tasks.specs.DataOuts.{data_answer, after_data}
use Rattle.iscsi_tasks.specs.Next.{next_of, after_next}
use Rattle.iscsi_tasks.specs.Aborts.{noted_at, without_task, without_unit}
use Rattle.iscsi_tasks.specs.Holding.{with_held, without_due}

-- what happens to the tasks: a PDU with a number comes, or a command, or data; what is next is asked for; a task or the tasks of a unit are
-- dropped, these by the session itself or by a reset of another; the command in hand is answered, or its reply is held; and a ticket is
-- settled, by an outcome
pub data Act : Type 0 where
  Numbered : (immediate : Bool) → (cmd_sn : SerialNumber) → Act
  Commanded : ScsiCommand → (payload : List ℕ) → Act
  DataCame : DataOut → (payload : List ℕ) → Act
  AskedNext : Act
  Aborted : (unit tag : ℕ) → Act
  Dropped : (unit : ℕ) → (by_another : Bool) → Act
  Answered : Act
  Held : UnitReply → ReplyTicket → Act
  Settled : ReplyTicket → Outcome → Act

abbrev pub stepped : TasksValue → Act → TasksValue
stepped s (Numbered immediate cmd_sn) = if is_taken s immediate cmd_sn then counted s immediate else s
stepped s (Commanded c payload) = after_command s c payload (command_answer s c payload)
stepped s (DataCame d payload) = after_data s d payload (data_answer s d (length payload))
stepped s AskedNext = after_next s
stepped s (Aborted unit tag) = without_task s unit tag
stepped s (Dropped unit by_another) =
    record (without_unit s unit) { reset_tasks = if by_another then noted_at s unit else s.reset_tasks }
stepped s Answered = record s { in_hand = None }
stepped s (Held reply ticket) = with_held s reply ticket
stepped s (Settled ticket outcome) = without_due s ticket

abbrev pub run : TasksValue → List Act → TasksValue
run s [] = s
run s (act ∷ acts) = run (stepped s act) acts

-- a command that is executed, with its data
pub record Executed : Type 0 where
  pub command : ScsiCommand
  pub bytes : List ℕ

abbrev pub at_once : ScsiCommand → (payload : List ℕ) → Result TakenCommand TasksFault → List Executed
at_once c payload (Ok (taken.Execute count)) = record { command = c; bytes = take count payload } ∷ []
at_once c payload _ = []

abbrev pub found_next : NextTask → List Executed
found_next (found.Execute t) = record { command = t.command; bytes = t.bytes } ∷ []
found_next _ = []

-- what an act executes
abbrev pub executed_by : TasksValue → Act → List Executed
executed_by s (Commanded c payload) = at_once c payload (command_answer s c payload)
executed_by s AskedNext = found_next (next_of s)
executed_by s _ = []

abbrev pub executed : TasksValue → List Act → List Executed
executed s [] = []
executed s (act ∷ acts) = executed_by s act ++ executed (stepped s act) acts

-- the commands that are handed out: executed, or answered as failed
abbrev pub handed_next : NextTask → List ScsiCommand
handed_next (found.Execute t) = t.command ∷ []
handed_next (found.Fail t fault) = t.command ∷ []
handed_next _ = []

abbrev pub handed_at_once : ScsiCommand → Result TakenCommand TasksFault → List ScsiCommand
handed_at_once c (Ok (taken.Execute count)) = c ∷ []
handed_at_once c _ = []

abbrev pub handed_by : TasksValue → Act → List ScsiCommand
handed_by s (Commanded c payload) = handed_at_once c (command_answer s c payload)
handed_by s AskedNext = handed_next (next_of s)
handed_by s _ = []

abbrev pub handed_out : TasksValue → List Act → List ScsiCommand
handed_out s [] = []
handed_out s (act ∷ acts) = handed_by s act ++ handed_out (stepped s act) acts

abbrev pub commands : List TaskValue → List ScsiCommand
commands tasks = map (λ t. t.command) tasks

-- a command that is taken: it is executed at once, or waits
abbrev pub taken_if : ScsiCommand → Result TakenCommand TasksFault → List ScsiCommand
taken_if c (Ok (taken.Execute count)) = c ∷ []
taken_if c (Ok taken.Waits) = c ∷ []
taken_if c _ = []

abbrev pub taken_by : TasksValue → Act → List ScsiCommand
taken_by s (Commanded c payload) = taken_if c (command_answer s c payload)
taken_by s _ = []

abbrev pub taken_in : TasksValue → List Act → List ScsiCommand
taken_in s [] = []
taken_in s (act ∷ acts) = taken_by s act ++ taken_in (stepped s act) acts

-- no command goes unexecuted by task management
abbrev pub EndsNone : Act → Type 0
EndsNone (Aborted unit tag) = ⊥
EndsNone (Dropped unit by_another) = ⊥
EndsNone _ = Unit {0}

-- a list is another without some of its elements
abbrev pub IsPartOf : {X : Type 0} → List X → List X → Type 0
IsPartOf [] ys = Unit {0}
IsPartOf (x ∷ xs) [] = ⊥
IsPartOf (x ∷ xs) (y ∷ ys) = ((x ≡ y) × IsPartOf xs ys) ⊎ IsPartOf (x ∷ xs) ys

-- bytes that came for a command, and where they stand among all of its data
pub record Piece : Type 0 where
  pub offset : ℕ
  pub bytes : List ℕ

abbrev pub piece_if : (its : Bool) → (offset : ℕ) → (bytes : List ℕ) → List Piece → List Piece
piece_if its offset bytes others = if its then record { offset = offset; bytes = bytes } ∷ others else others

-- all that came under a tag: immediate data and Data-Out
abbrev pub pieces_of : (tag : ℕ) → List Act → List Piece
pieces_of tag [] = []
pieces_of tag (Commanded c payload ∷ acts) = piece_if (c.initiator_task_tag == tag) 0 payload (pieces_of tag acts)
pieces_of tag (DataCame d payload ∷ acts) = piece_if (d.initiator_task_tag == tag) d.buffer_offset payload (pieces_of tag acts)
pieces_of tag (Numbered immediate cmd_sn ∷ acts) = pieces_of tag acts
pieces_of tag (AskedNext ∷ acts) = pieces_of tag acts
pieces_of tag (Aborted unit aborted ∷ acts) = pieces_of tag acts
pieces_of tag (Dropped unit by_another ∷ acts) = pieces_of tag acts
pieces_of tag (Answered ∷ acts) = pieces_of tag acts
pieces_of tag (Held reply ticket ∷ acts) = pieces_of tag acts
pieces_of tag (Settled ticket outcome ∷ acts) = pieces_of tag acts

-- each begins where the one before ends
abbrev pub Continue : (from : ℕ) → List Piece → Type 0
Continue from [] = Unit {0}
Continue from (p ∷ ps) = (p.offset ≡ from) × Continue (from + length p.bytes) ps

abbrev pub together : List Piece → List ℕ
together [] = []
together (p ∷ ps) = p.bytes ++ together ps

-- its data are whole, and put together of what came under its own tag, piece behind piece
pub record IsMadeOf (limit : ℕ) (acts : List Act) (e : Executed) : Type 0 where
  pub pieces : List Piece
  pub its_own : IsPartOf pieces (pieces_of e.command.initiator_task_tag acts)
  pub in_place : Continue 0 pieces
  pub bytes_are : e.bytes ≡ take (wanted limit e.command) (together pieces)
  pub whole : length e.bytes ≡ wanted limit e.command
