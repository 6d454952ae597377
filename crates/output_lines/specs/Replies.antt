-- A reply as a line of text.
use Rattle.std.specs.Prelude.{ℕ, ◌==◌, List, [], ◌∷◌, ◌++◌, length, Option, Some, None, if◌then◌else◌}
use Rattle.std.specs.List.{flat_map}
use Rattle.hex.specs.Hex.{encode_lower}
use Rattle.scsi_sense.specs.FixedSense.{fixed_sense}
use Rattle.scsi_sense.specs.Status.{status_code}
use Rattle.scsi_sense.specs.declared.sense.Sense.{Sense}
use Rattle.scsi_sense.specs.declared.status.Status.{Status}
use Rattle.judgement.specs.declared.reply.Reply.{Reply}

-- bytes in hexadecimal, or a dash where there are none
abbrev pub hex_or_dash : List ℕ → List ℕ
hex_or_dash bytes = if length bytes == 0 then 45 ∷ [] else encode_lower bytes

abbrev pub sense_text : Option Sense → List ℕ
sense_text None = 45 ∷ []
sense_text (Some sense) = encode_lower (fixed_sense sense)

-- STATUS SENSE DATA
unfoldable pub answer_line : Status → Option Sense → (payload : List ℕ) → List ℕ
answer_line status sense payload =
    encode_lower (status_code status ∷ []) ++ (32 ∷ sense_text sense) ++ (32 ∷ hex_or_dash payload) ++ 10 ∷ []

abbrev pub reply_line : Reply → List ℕ
reply_line r = answer_line r.status r.sense r.payload

-- a line for each reply
abbrev pub text_of : List Reply → List ℕ
text_of replies = flat_map reply_line replies
