-- The index of an image: where each of its objects lies.
use Rattle.std.specs.Prelude.{◌≡◌, ℕ, List, length, map, Option}
use Rattle.std.specs.Io.KnownBytes.{Consumes}
use Rattle.tape_medium.specs.Object.{Object, Block, Mark}
use Rattle.tape_image.specs.declared.index.IndexedObject.{IndexedObject}
use Rattle.tape_image.specs.declared.index.IndexedObject.TheVariants as entry
use Rattle.tape_image.specs.declared.ending.ImageEnd.{ImageEnd}
use Rattle.tape_image.specs.Reading.{Placed, Stop, Reads, image_end}

-- a block by its length, a filemark as such
abbrev pub entry_of : (offset : ℕ) → Object → IndexedObject
entry_of offset (Block bytes) = entry.Block offset (length bytes)
entry_of offset Mark = entry.Mark offset

abbrev pub indexed : Placed → IndexedObject
indexed placed = entry_of placed.offset placed.object

-- the index of all objects of an image, and how it ends
abbrev pub IsIndexOf : (bytes : List ℕ) → List IndexedObject → ImageEnd → Type 0
IsIndexOf bytes entries end =
    (objects : List Placed) × (stop : Stop) × Reads 0 bytes objects stop × (entries ≡ map indexed objects) × (end ≡ image_end (length objects) stop)

-- the same of the bytes that a reader gave for it
abbrev pub IsReadIndex : (left left' : Option (List ℕ)) → List IndexedObject → ImageEnd → Type 0
IsReadIndex left left' entries end = (bytes : List ℕ) × Consumes left left' bytes × IsIndexOf bytes entries end
