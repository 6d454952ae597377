-- Mode parameters of a drive: a mode parameter header of 4 bytes and a block descriptor of 8, which has the block length in its
-- last three (SPC-4, "Mode parameter list formats"; SSC-4, "Mode parameters").
use Rattle.std.specs.Prelude.{ℕ, ◌+◌, ◌*◌, ◌/◌, ◌%◌, ◌^◌, ◌==◌, nat_lt, Bool, ◌&&◌, not, List, [], ◌∷◌, length, slice_index, Option, Some, None, if◌then◌else◌}
use Rattle.scsi_sense.specs.declared.condition.Condition.{Condition}
use Rattle.scsi_sense.specs.declared.condition.Condition.TheVariants.{ParameterListLengthError, InvalidFieldInParameterList}
use Rattle.scsi_cdb.specs.declared.profile.Profile.TheVariants.{Spec}
use Rattle.tape_medium.specs.Limits.{most_block}

-- a number of three bytes, the highest first
abbrev pub three : ℕ → List ℕ
three n = n / 2 ^ 16 % 256 ∷ n / 2 ^ 8 % 256 ∷ n % 256 ∷ []

abbrev pub byte : List ℕ → ℕ → ℕ
byte list i = slice_index list i

-- the block length in a list that has a block descriptor
abbrev pub block_length_in : List ℕ → ℕ
block_length_in list = byte list 9 * 2 ^ 16 + byte list 10 * 2 ^ 8 + byte list 11

-- the length of the block descriptor that a list announces
abbrev pub descriptor_length : List ℕ → ℕ
descriptor_length list = byte list 3

-- why a mode parameter list is refused, in the order of the tests; nothing is refused where none is announced. `told` is the
-- length that the CDB says.
abbrev pub list_fault : (told : ℕ) → List ℕ → Option Condition
list_fault told list =
    if told == 0 then None
    else if not (length list == told) then Some ParameterListLengthError
    else if nat_lt told 4 then Some ParameterListLengthError
    else if not (descriptor_length list == 0) && not (descriptor_length list == 8) then Some InvalidFieldInParameterList
    else if not (told == 4 + descriptor_length list) then Some ParameterListLengthError
    else if descriptor_length list == 8 && nat_lt (most_block Spec) (block_length_in list) then Some InvalidFieldInParameterList
    else None

-- the block length after a MODE SELECT whose list isn't refused: one without a block descriptor leaves it
abbrev pub block_length_after : (before told : ℕ) → List ℕ → ℕ
block_length_after before told list = if told == 0 then before else if descriptor_length list == 8 then block_length_in list else before

-- the data of MODE SENSE: how many bytes follow, the medium type, WP of a protected volume, then the block descriptor, unless it is
-- disabled; no mode page follows
abbrev pub mode_data : (protected disable_block_descriptors : Bool) → (block_length : ℕ) → List ℕ
mode_data protected disable_block_descriptors block_length =
    let device_specific = if protected then 0x80 else 0x00 in
    if disable_block_descriptors then 0x03 ∷ 0x00 ∷ device_specific ∷ 0x00 ∷ []
    else 0x0B ∷ 0x00 ∷ device_specific ∷ 0x08 ∷ 0x00 ∷ 0x00 ∷ 0x00 ∷ 0x00 ∷ 0x00 ∷ three block_length
