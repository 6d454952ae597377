-- Tags: which are the same, their order, and those of volumes that are made.
use Rattle.std.specs.Prelude.{ℕ, ◌+◌, ◌/◌, ◌%◌, Bool, List, [], ◌∷◌, ◌++◌, map, replicate, codes, nat_eq}
use Rattle.std.specs.List.{range_with_len}
use Rattle.std.specs.Cmp.Lexicographic.{pointwise, slice_cmp}
use Rattle.std.specs.Ordering.{nat_cmp}
use Rattle.std.specs.declared.cmp.Ordering.{Ordering}
use Rattle.tape_medium.specs.declared.volume.VolumeTag.{VolumeTag}

-- the same bytes
abbrev pub same_tag : VolumeTag → VolumeTag → Bool
same_tag tag other = pointwise nat_eq tag.0 other.0

-- byte by byte
abbrev pub tag_cmp : VolumeTag → VolumeTag → Ordering
tag_cmp tag other = slice_cmp nat_cmp tag.0 other.0

-- a number as five decimal digits
abbrev pub five_digits : ℕ → List ℕ
five_digits n = (48 + n / 10000) ∷ (48 + n / 1000 % 10) ∷ (48 + n / 100 % 10) ∷ (48 + n / 10 % 10) ∷ (48 + n % 10) ∷ []

-- VOL and the digits, padded with spaces to 32 bytes
abbrev pub tag_of : ℕ → VolumeTag
tag_of number = record { 0 = codes "VOL" ++ five_digits number ++ replicate 24 0x20 }

-- those from VOL00001 to VOL04095
unfoldable pub usual_tags : List VolumeTag
usual_tags = map tag_of (range_with_len 1 4095)
