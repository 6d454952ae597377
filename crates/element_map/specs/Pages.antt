use Rattle.std.specs.Prelude.{ℕ, ◌+◌, ◌*◌, Bool, List, [], ◌∷◌, ◌++◌, Option, if◌then◌else◌}
use Rattle.std.specs.List.{flat_map}
use Rattle.tape_medium.specs.declared.volume.VolumeTag.{VolumeTag}
use Rattle.tape_medium.specs.ElementStatus.{Reported, two_bytes, three_bytes, descriptor, descriptor_length}
use Rattle.element_map.specs.declared.element_type.ElementType.{ElementType}
use Rattle.element_map.specs.Runs.{code_of, first_of}

-- The pages of READ ELEMENT STATUS (SMC-3, "READ ELEMENT STATUS command"), piece by piece.

-- an element as it is reported, by its number within its type
abbrev pub reported_at : ElementType → ℕ → Option VolumeTag → Reported
reported_at type at tag = record { type_code = code_of type; address = first_of type + at; tag = tag }

-- the header of a page with so many descriptors
abbrev pub page_header : Bool → ℕ → ℕ → List ℕ
page_header voltag type_code count =
    type_code ∷ (if voltag then 0x80 else 0) ∷ [] ++ two_bytes (descriptor_length voltag) ++ 0 ∷ three_bytes (count * descriptor_length voltag)

abbrev pub descriptors : Bool → List Reported → List ℕ
descriptors voltag rs = flat_map (descriptor voltag) rs
