-- What the program's changer holds at power on.
use Rattle.std.specs.Prelude.{ℕ, zero, suc, ◌+◌, ◌-◌, ◌/◌, ◌%◌, false, List, [], ◌∷◌, ◌++◌, replicate, codes, Option, Some, None}
use Rattle.tape_medium.specs.Elements.{Elements}
use Rattle.tape_medium.specs.Tape.{blank}
use Rattle.tape_medium.specs.declared.volume.Volume.{Volume}
use Rattle.tape_medium.specs.declared.volume.VolumeTag.{VolumeTag}
use Rattle.program_options.specs.declared.library_options.LibraryOptions.{LibraryOptions}

-- a number as five decimal digits
abbrev pub five_digits : ℕ → List ℕ
five_digits n = (48 + n / 10000) ∷ (48 + n / 1000 % 10) ∷ (48 + n / 100 % 10) ∷ (48 + n / 10 % 10) ∷ (48 + n % 10) ∷ []

-- VOL and the digits, padded with spaces to 32 bytes
abbrev pub tag_of : ℕ → VolumeTag
tag_of number = record { 0 = codes "VOL" ++ five_digits number ++ replicate 24 0x20 }

-- an empty volume for so many bytes of blocks, that isn't write protected
abbrev pub volume_of : (size number : ℕ) → Volume
volume_of size number = record { tag = tag_of number; protected = false; tape = blank size }

-- so many volumes of a size, numbered from 1 on, each in an element
abbrev pub volumes_to : (size volumes : ℕ) → List (Option Volume)
volumes_to size zero = []
volumes_to size (suc k) = volumes_to size k ++ Some (volume_of size (k + 1)) ∷ []

-- so many storage elements, the first of them with volumes
abbrev pub shelved : (size volumes slots : ℕ) → List (Option Volume)
shelved size volumes slots = volumes_to size volumes ++ replicate (slots - volumes) None

-- with so many volumes on the shelves
abbrev pub stocked_to : LibraryOptions → ℕ → Elements
stocked_to options volumes = record {
  data_transfer = replicate options.drives None;
  import_export = replicate options.import_exports None;
  storage = shelved options.volume_size volumes options.slots;
}

abbrev pub stocked : LibraryOptions → Elements
stocked options = stocked_to options options.volumes
