-- The names of tags, as files have them.
use Rattle.std.specs.Prelude.{ℕ, ◌-◌, ◌==◌, ◌||◌, ◌&&◌, nat_le, nat_lt, Bool, false, List, ◌++◌, length, replicate, Option, Some, None, if◌then◌else◌}
use Rattle.std.specs.List.{list_all}
use Rattle.tape_medium.specs.declared.volume.VolumeTag.{VolumeTag}

abbrev pub is_between : (low high byte : ℕ) → Bool
is_between low high byte = nat_le low byte && nat_le byte high

-- A to Z, a to z, 0 to 9, _ and -
abbrev pub is_name_byte : ℕ → Bool
is_name_byte byte = is_between 65 90 byte || is_between 97 122 byte || is_between 48 57 byte || byte == 95 || byte == 45

-- 1 to 32 of these
abbrev pub is_name : List ℕ → Bool
is_name bytes = if length bytes == 0 then false else if nat_lt 32 (length bytes) then false else list_all is_name_byte bytes

-- padded with spaces to 32 bytes
abbrev pub padded : List ℕ → VolumeTag
padded bytes = record { 0 = bytes ++ replicate (32 - length bytes) 0x20 }

-- the tag with a name
abbrev pub named : List ℕ → Option VolumeTag
named bytes = if is_name bytes then Some (padded bytes) else None
