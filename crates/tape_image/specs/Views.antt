-- What the code finds, without where its bytes lie.
use Rattle.std.specs.Prelude.{ℕ, ◌<◌, ◌≤◌}
use Rattle.tape_medium.specs.Object.{Block, Mark}
use Rattle.tape_image.specs.declared.part.ImagePart.{ImagePart}
use Rattle.tape_image.specs.declared.part.ImagePart.TheVariants as found
use Rattle.tape_image.specs.Limits.{part_limit}
use Rattle.tape_image.specs.Parts.{PartValue, Partial, Complete, Gap, End, Invalid}

abbrev pub part_value : ImagePart → PartValue
part_value (found.Partial wanted) = Partial wanted
part_value (found.Block bytes count) = Complete (Block bytes.now) count
part_value found.Mark = Complete Mark 4
part_value found.Gap = Gap
part_value found.End = End
part_value (found.Invalid fault) = Invalid fault

-- of an image of so many bytes: a part is some of them, and more are wanted than there are, at most a longest block
abbrev pub IsWithin : ℕ → PartValue → Type 0
IsWithin len (Partial wanted) = (len < wanted) × (wanted ≤ part_limit)
IsWithin len (Complete object count) = (4 ≤ count) × (count ≤ len)
IsWithin len Gap = 4 ≤ len
IsWithin len End = 4 ≤ len
IsWithin len (Invalid fault) = 4 ≤ len
