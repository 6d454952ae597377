-- How many objects of a volume's tape count as unchanged, which a program that keeps a copy of the tape notes.
use Rattle.std.specs.Prelude.{ℕ, length, map, min, Option, None, unwrap_or}
use Rattle.std.specs.Option.{option_map}
use Rattle.tape_medium.specs.Tape.{settled}
use Rattle.tape_medium.specs.Elements.{Elements, element_at, held_in, holding}
use Rattle.tape_medium.specs.declared.volume.Volume.{Volume}

-- from now on the first so many objects of its tape count as unchanged, or all where there are fewer
abbrev pub settled_to : (objects : ℕ) → Volume → Volume
settled_to objects volume = record volume { tape = settled volume.tape (min objects (length volume.tape.objects)) }

-- the same for the volume in an element
abbrev pub settles : Elements → (address objects : ℕ) → Elements
settles e address objects =
    holding e (element_at e address) (option_map (settled_to objects) (unwrap_or (held_in e (element_at e address)) None))

-- as if no object counted as unchanged
abbrev pub unsettled_place : Option Volume → Option Volume
unsettled_place place = option_map (settled_to 0) place

abbrev pub unsettled_elements : Elements → Elements
unsettled_elements e =
    record e { import_export = map unsettled_place e.import_export; storage = map unsettled_place e.storage }
