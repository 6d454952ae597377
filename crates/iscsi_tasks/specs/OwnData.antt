-- What has come for a command: with it, and in Data-Out under its tag since it was taken.
use Rattle.std.specs.Prelude.{◌≡◌, ℕ, ◌==◌, List, [], ◌∷◌, ◌++◌, length, take, Result, Ok, Err, if◌then◌else◌}
use Rattle.std.specs.List.{AllByRecursion}
use Rattle.iscsi_pdu.specs.declared.scsi_command.ScsiCommand.{ScsiCommand}
use Rattle.iscsi_pdu.specs.declared.data_out.DataOut.{DataOut}
use Rattle.iscsi_tasks.specs.declared.taken.TakenCommand.{TakenCommand}
use Rattle.iscsi_tasks.specs.declared.taken.TakenCommand.TheVariants as taken
use Rattle.iscsi_tasks.specs.declared.taken.TakenData.{TakenData}
use Rattle.iscsi_tasks.specs.declared.fault.TasksFault.{TasksFault}
use Rattle.iscsi_tasks.specs.Values.{TasksValue}
use Rattle.iscsi_tasks.specs.Writes.{wanted}
use Rattle.iscsi_tasks.specs.Commands.{command_answer}
use Rattle.iscsi_tasks.specs.DataOuts.{data_answer}
use Rattle.iscsi_tasks.specs.Runs.{Act, Numbered, Commanded, DataCame, AskedNext, Aborted, Dropped, Answered, Held, Settled, run, stepped}
use Rattle.iscsi_tasks.specs.Runs.{Executed, executed_by, Piece, Continue, together}

abbrev pub piece : (offset : ℕ) → (bytes : List ℕ) → Piece
piece offset bytes = record { offset = offset; bytes = bytes }

-- without W whatever comes with a command isn't data
abbrev pub first_piece : ScsiCommand → (payload : List ℕ) → List Piece
first_piece c payload = if c.writes then piece 0 payload ∷ [] else []

-- a command that is taken begins anew, whatever came under its tag before
abbrev pub begun_with : ScsiCommand → (payload : List ℕ) → Result TakenCommand TasksFault → (before : List Piece) → List Piece
begun_with c payload (Ok (taken.Execute count)) before = first_piece c payload
begun_with c payload (Ok taken.Waits) before = first_piece c payload
begun_with c payload (Ok taken.PassedOver) before = before
begun_with c payload (Ok (taken.Rejected reason)) before = before
begun_with c payload (Err fault) before = before

-- each Data-Out counts, but one for which there is no room, by which a session ends
abbrev pub continued_with : DataOut → (payload : List ℕ) → Result TakenData TasksFault → (before : List Piece) → List Piece
continued_with d payload (Ok answer) before = before ++ piece d.buffer_offset payload ∷ []
continued_with d payload (Err fault) before = before

abbrev pub came_by : (tag : ℕ) → TasksValue → Act → (before : List Piece) → List Piece
came_by tag s (Commanded c payload) before =
    if tag == c.initiator_task_tag then begun_with c payload (command_answer s c payload) before else before
came_by tag s (DataCame d payload) before =
    if tag == d.initiator_task_tag then continued_with d payload (data_answer s d (length payload)) before else before
came_by tag s (Numbered immediate cmd_sn) before = before
came_by tag s AskedNext before = before
came_by tag s (Aborted unit aborted) before = before
came_by tag s (Dropped unit by_another) before = before
came_by tag s Answered before = before
came_by tag s (Held reply ticket) before = before
came_by tag s (Settled ticket outcome) before = before

-- what has come for the command that was taken last under a tag, behind what had come before these acts
abbrev pub came_for : (tag : ℕ) → TasksValue → List Act → (before : List Piece) → List Piece
came_for tag s [] before = before
came_for tag s (act ∷ acts) before = came_for tag (stepped s act) acts (came_by tag s act before)

-- a command that is executed has all that came for it and nothing else, each piece where the one before ends, as much as its unit takes
pub record HasJust (limit : ℕ) (came : List Piece) (e : Executed) : Type 0 where
  pub in_place : Continue 0 came
  pub bytes_are : e.bytes ≡ take (wanted limit e.command) (together came)
  pub whole : length e.bytes ≡ wanted limit e.command

-- that holds of what an act executes behind others
abbrev pub ExecutesJust : TasksValue → (before : List Act) → Act → Type 0
ExecutesJust s before act =
    AllByRecursion (λ e. HasJust s.limit (came_for e.command.initiator_task_tag s (before ++ act ∷ []) []) e) (executed_by (run s before) act)

-- and of each command that is executed along a run
abbrev pub EachHasJust : TasksValue → List Act → Type 0
EachHasJust s acts = (before : List Act) (act : Act) (after : List Act) → acts ≡ before ++ act ∷ after → ExecutesJust s before act
