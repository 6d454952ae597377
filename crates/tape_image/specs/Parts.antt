-- What an image begins with (SIMH Magtape Representation and Handling).
use Rattle.std.specs.Prelude.{ℕ, ◌+◌, ◌==◌, nat_lt, nat_le, Bool, false, List, length, take, drop, if◌then◌else◌}
use Rattle.byteorder.specs.Endian.{little_number}
use Rattle.tape_medium.specs.Limits.{block_limit}
use Rattle.tape_medium.specs.Object.{Object, Block, Mark}
use Rattle.tape_image.specs.Images.{padded, block_count}
use Rattle.tape_image.specs.declared.fault.ImageFault.{ImageFault}
use Rattle.tape_image.specs.declared.fault.ImageFault.TheVariants.{UnknownClass, TooLong, UnequalLengths}

-- less than a part, which has so many bytes at least; an object of so many bytes; an erase gap or the end mark, of four; or a fault
pub data PartValue : Type 0 where
  Partial : (wanted : ℕ) → PartValue
  Complete : Object → (count : ℕ) → PartValue
  Gap : PartValue
  End : PartValue
  Invalid : ImageFault → PartValue

-- more than a piece of a part
abbrev pub IsKnown : PartValue → Type 0
IsKnown (Partial wanted) = ⊥
IsKnown _ = Unit {0}

-- a block of so many bytes: its pad counts for nothing, and its length stands behind it again
abbrev pub sized : (size : ℕ) → (bytes : List ℕ) → PartValue
sized size bytes =
    if nat_lt (length bytes) (block_count size) then Partial (block_count size)
    else if little_number 4 (drop (4 + padded size) bytes) == size then Complete (Block (take size (drop 4 bytes))) (block_count size)
    else Invalid UnequalLengths

-- by the length that it begins with: its highest four bits are a class, which a block has not
abbrev pub measured : (word : ℕ) → (bytes : List ℕ) → PartValue
measured word bytes =
    if word == 0 then Complete Mark 4
    else if word == 0xFFFFFFFF then End
    else if word == 0xFFFFFFFE then Gap
    else if nat_le 0x10000000 word then Invalid UnknownClass
    else if nat_lt block_limit word then Invalid TooLong
    else sized word bytes

unfoldable pub image_part : (bytes : List ℕ) → PartValue
image_part bytes = if nat_lt (length bytes) 4 then Partial 4 else measured (little_number 4 bytes) bytes

-- a block of more than so many bytes, or the beginning of one, which wants as many and its two lengths
abbrev pub is_longer : (most : ℕ) → PartValue → Bool
is_longer most (Partial wanted) = nat_lt (4 + most + 4) wanted
is_longer most (Complete (Block bytes) count) = nat_lt most (length bytes)
is_longer most part = false
