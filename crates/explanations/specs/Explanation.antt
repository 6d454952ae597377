-- A reply in words, by the CDB of the command and the commands of the unit that it was sent to.
use Rattle.std.specs.Prelude.{ℕ, ◌==◌, List, [], ◌∷◌, ◌++◌, length, codes, Option, if◌then◌else◌}
use Rattle.scsi_cdb.specs.declared.profile.CommandSet.{CommandSet}
use Rattle.scsi_sense.specs.Text.{status_name}
use Rattle.scsi_sense.specs.declared.sense.Sense.{Sense}
use Rattle.scsi_sense.specs.declared.status.Status.{Status}
use Rattle.scsi_sense.specs.declared.status.Status.TheVariants.{Good, CheckCondition, Busy, ReservationConflict}
use Rattle.explanations.specs.CommandList.{commands_text}
use Rattle.explanations.specs.Commands.{log_text, one_command_text, task_management_text}
use Rattle.explanations.specs.Contents.{contents_of}
use Rattle.explanations.specs.Drives.{long_mode_text, mode_text, position_text}
use Rattle.explanations.specs.ElementWords.{elements_text}
use Rattle.explanations.specs.Reservations.{reservations_text}
use Rattle.explanations.specs.Senses.{sense_text_in}
use Rattle.explanations.specs.Units.{inquiry_text, luns_text, page_text}
use Rattle.explanations.specs.Words.{byte_count}
use Rattle.explanations.specs.declared.contents.Contents.{Contents}
use Rattle.explanations.specs.declared.contents.Contents.TheVariants.{StandardInquiry, VitalProductData, ModeParameters, LongModeParameters, LogPage, Commands, Command, TaskManagement, Position, Reservations, LogicalUnits, Elements, Other}

-- the data that a command asked for
abbrev pub contents_text : Contents → List ℕ → List ℕ
contents_text StandardInquiry bytes = inquiry_text bytes
contents_text VitalProductData bytes = page_text bytes
contents_text ModeParameters bytes = mode_text bytes
contents_text LongModeParameters bytes = long_mode_text bytes
contents_text LogPage bytes = log_text bytes
contents_text (Commands timeouts) bytes = commands_text timeouts bytes
contents_text Command bytes = one_command_text bytes
contents_text TaskManagement bytes = task_management_text bytes
contents_text Position bytes = position_text bytes
contents_text (Reservations list) bytes = reservations_text list bytes
contents_text LogicalUnits bytes = luns_text bytes
contents_text Elements bytes = elements_text bytes
contents_text Other bytes = byte_count (length bytes)

-- the data of a reply: read with GOOD alone, else counted
abbrev pub payload_by : Status → Contents → List ℕ → List ℕ
payload_by Good contents bytes = contents_text contents bytes
payload_by CheckCondition contents bytes = byte_count (length bytes)
payload_by Busy contents bytes = byte_count (length bytes)
payload_by ReservationConflict contents bytes = byte_count (length bytes)

abbrev pub payload_text : CommandSet → (cdb : List ℕ) → Status → (payload : List ℕ) → List ℕ
payload_text commands cdb status payload = if length payload == 0 then [] else payload_by status (contents_of commands cdb) payload

-- the line: the status, the sense data and the data
unfoldable pub explanation : CommandSet → (cdb : List ℕ) → Status → Option Sense → (payload : List ℕ) → List ℕ
explanation commands cdb status sense payload =
    codes "# " ++ status_name status ++ sense_text_in sense ++ payload_text commands cdb status payload ++ 10 ∷ []
