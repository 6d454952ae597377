-- The list of a unit's commands in words (SPC-4, "REPORT SUPPORTED OPERATION CODES command").
use Rattle.std.specs.Prelude.{ℕ, ◌+◌, ◌==◌, nat_lt, Bool, List, ◌++◌, length, take, drop, codes, if◌then◌else◌}
use Rattle.scsi_cdb.specs.Bits.{four_bytes}
use Rattle.explanations.specs.Commands.{command_text, descriptor_size}
use Rattle.explanations.specs.Pieces.{whole_pieces}
use Rattle.explanations.specs.Words.{cut}

abbrev pub commands_in : (timeouts : Bool) → (told : ℕ) → List ℕ → List ℕ
commands_in timeouts told bytes =
    if told == 0 then codes ", no commands"
    else codes ", commands" ++ whole_pieces command_text (descriptor_size timeouts) (take told (drop 4 bytes))

-- bytes 0 to 3 are how many follow them
unfoldable pub commands_text : (timeouts : Bool) → List ℕ → List ℕ
commands_text timeouts bytes =
    if nat_lt (length bytes) 4 then codes ", cut"
    else commands_in timeouts (four_bytes bytes 0) bytes ++ cut (4 + four_bytes bytes 0) bytes
