-- A reply's line, and the line that says it in words.
use Rattle.std.specs.Prelude.{ℕ, List, ◌++◌, Option}
use Rattle.scsi_sense.specs.declared.sense.Sense.{Sense}
use Rattle.scsi_sense.specs.declared.status.Status.{Status}
use Rattle.scsi_cdb.specs.declared.profile.Profile.{Profile}
use Rattle.scsi_cdb.specs.Kinds.{commands_at}
use Rattle.explanations.specs.Explanation.{explanation}
use Rattle.output_lines.specs.Replies.{answer_line}
use Rattle.output_lines.specs.declared.explained.Explanations.{Explanations}
use Rattle.output_lines.specs.declared.explained.Explanations.TheVariants.{Off, On}

-- what is written of an answer to a command at a logical unit of a library of a profile
abbrev pub answer_text : Explanations → Profile → (lun : ℕ) → (cdb : List ℕ) → Status → Option Sense → (payload : List ℕ) → List ℕ
answer_text Off profile lun cdb status sense payload = answer_line status sense payload
answer_text On profile lun cdb status sense payload = answer_line status sense payload ++ explanation (commands_at profile lun) cdb status sense payload
