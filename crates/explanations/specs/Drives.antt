-- The data of READ POSITION and both lengths of MODE SENSE in words (SSC-4, "READ POSITION command"; SPC-4, "Mode parameter list formats").
use Rattle.std.specs.Prelude.{ℕ, ◌+◌, ◌&&◌, nat_le, List, [], ◌++◌, length, codes, if◌then◌else◌}
use Rattle.scsi_cdb.specs.Bits.{bit, byte, two_bytes, three_bytes, four_bytes}
use Rattle.explanations.specs.Words.{coded_text, cut, number_text}

-- BOP
unfoldable pub beginning_text : List ℕ → List ℕ
beginning_text bytes = if bit bytes 0 7 then codes ", beginning of partition" else []

-- the number of the first logical object
unfoldable pub object_text : List ℕ → List ℕ
object_text bytes = if nat_le 8 (length bytes) then number_text (codes ", logical object ") (four_bytes bytes 4) else []

-- READ POSITION: 20 bytes
abbrev pub position_text : List ℕ → List ℕ
position_text bytes = beginning_text bytes ++ object_text bytes ++ cut 20 bytes

-- MEDIUM TYPE
unfoldable pub medium_text : (place : ℕ) → List ℕ → List ℕ
medium_text place bytes = if nat_le (place + 1) (length bytes) then coded_text (codes ", medium type ") (byte bytes place) else []

-- WP
unfoldable pub protection_text : (place : ℕ) → List ℕ → List ℕ
protection_text place bytes = if bit bytes place 7 then codes ", write protected" else []

-- the density code and the block length, where the header says that there is a block descriptor behind it, and it is whole
unfoldable pub block_descriptor_text : (told header : ℕ) → List ℕ → List ℕ
block_descriptor_text told header bytes =
    if nat_le 8 told && nat_le (header + 8) (length bytes) then
    coded_text (codes ", density ") (byte bytes header) ++ number_text (codes ", block length ") (three_bytes bytes (header + 5))
    else []

-- MODE SENSE(6): byte 0 is how many bytes follow it
abbrev pub mode_text : List ℕ → List ℕ
mode_text bytes =
    medium_text 1 bytes ++ protection_text 2 bytes ++ block_descriptor_text (byte bytes 3) 4 bytes ++ cut (1 + byte bytes 0) bytes

-- MODE SENSE(10): so are bytes 0 and 1
abbrev pub long_mode_text : List ℕ → List ℕ
long_mode_text bytes =
    medium_text 2 bytes ++ protection_text 3 bytes ++ block_descriptor_text (two_bytes bytes 6) 8 bytes ++ cut (2 + two_bytes bytes 0) bytes
