-- Fixed format sense data (SPC-4, "Fixed format sense data"): what bytes say, and the bytes of a sense.
use Rattle.std.specs.Prelude.{◌≡◌, ℕ, ◌+◌, ◌%◌, ◌^◌, ◌<◌, ◌==◌, nat_lt, false, List, [], ◌∷◌, ◌++◌, length, slice_index, Result, Ok, Err, if◌then◌else◌}
use Rattle.scsi_sense.specs.Bits.{bit, flag, four, four_bytes}
use Rattle.scsi_sense.specs.declared.fault.SenseFault.{SenseFault}
use Rattle.scsi_sense.specs.declared.fault.SenseFault.TheVariants.{Short, NotFixed}
use Rattle.scsi_sense.specs.declared.sense.Sense.{Sense}

-- what the bytes say, each field from its place
abbrev pub sense_of : List ℕ → Sense
sense_of bytes = record {
  valid = bit (slice_index bytes 0) 7;
  filemark = bit (slice_index bytes 2) 7;
  eom = bit (slice_index bytes 2) 6;
  ili = bit (slice_index bytes 2) 5;
  key = slice_index bytes 2 % 16;
  information = four_bytes bytes 3;
  asc = slice_index bytes 12;
  ascq = slice_index bytes 13;
}

-- RESPONSE CODE: bits 6 to 0 of byte 0
abbrev pub response_code : List ℕ → ℕ
response_code bytes = slice_index bytes 0 % 128

-- the sense that bytes decode to, or the first fault: too few of them, another response code
abbrev pub decoded_sense : List ℕ → Result Sense SenseFault
decoded_sense bytes =
    if nat_lt (length bytes) 18 then Err Short
    else if response_code bytes == 0x70 then Ok (sense_of bytes)
    else Err NotFixed

-- VALID and RESPONSE CODE; an obsolete byte; FILEMARK, EOM, ILI and SENSE KEY; INFORMATION, zero without
-- VALID; ADDITIONAL SENSE LENGTH; four bytes of the command; ASC and ASCQ; a unit code and three bytes of
-- the sense key
abbrev pub fixed_sense : Sense → List ℕ
fixed_sense s =
    (flag 7 s.valid + 0x70) ∷ 0 ∷ (flag 7 s.filemark + flag 6 s.eom + flag 5 s.ili + s.key % 16)
    ∷ (four (if s.valid then s.information else 0) ++ 0x0A ∷ 0 ∷ 0 ∷ 0 ∷ 0 ∷ s.asc ∷ s.ascq ∷ 0 ∷ 0 ∷ 0 ∷ 0 ∷ [])

-- what the format can carry: a key of four bits, INFORMATION of four bytes, and none without VALID
pub record IsWritable (s : Sense) : Type 0 where
  pub key : s.key < 16
  pub information : s.information < 2 ^ 32
  pub valid : s.valid ≡ false → s.information ≡ 0

-- what is written is read again
abbrev pub ReadsBack : Type 0
ReadsBack = (s : Sense) → IsWritable s → decoded_sense (fixed_sense s) ≡ Ok s
