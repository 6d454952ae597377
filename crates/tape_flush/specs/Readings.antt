-- An image that is read as a tape.
use Rattle.std.specs.Prelude.{◌≡◌, ℕ, List, [], ◌∷◌, length, map, Option}
use Rattle.std.specs.Io.KnownBytes.{Consumes}
use Rattle.tape_medium.specs.Object.{Object}
use Rattle.tape_medium.specs.TapeView.{TapeView}
use Rattle.tape_image.specs.declared.index.IndexedObject.{IndexedObject}
use Rattle.tape_image.specs.declared.ending.ImageEnd.{ImageEnd}
use Rattle.tape_image.specs.Indexes.{indexed}
use Rattle.tape_image.specs.Parts.{PartValue, Complete}
use Rattle.tape_image.specs.Reading.{Placed, Stop, Reads, image_end}
use Rattle.tape_flush.specs.Images.{object_in}

-- the object that a part is, if it is one
abbrev pub object_of : PartValue → List Object
object_of (Complete x count) = x ∷ []
object_of _ = []

-- a tape on which some objects were written from its beginning on
abbrev pub tape_with : (capacity : ℕ) → List Object → TapeView
tape_with capacity objects = record { objects = objects; position = length objects; capacity = capacity; unchanged = 0 }

-- one at its beginning, all of whose objects are as they were
abbrev pub tape_of : (capacity : ℕ) → List Object → TapeView
tape_of capacity objects = record { objects = objects; position = 0; capacity = capacity; unchanged = length objects }

-- a tape of all objects of an image, the index of these, and how the image ends
pub record IsReadAs (bytes : List ℕ) (capacity : ℕ) (tape : TapeView) (entries : List IndexedObject) (end : ImageEnd) : Type 0 where
  pub found : List Placed
  pub stop : Stop
  pub reads : Reads 0 bytes found stop
  pub tape_is : tape ≡ tape_of capacity (map object_in found)
  pub entries_are : entries ≡ map indexed found
  pub end_is : end ≡ image_end (length found) stop

-- the same of the bytes that a reader gave for it
abbrev pub IsReadFrom : (left left' : Option (List ℕ)) → (capacity : ℕ) → TapeView → List IndexedObject → ImageEnd → Type 0
IsReadFrom left left' capacity tape entries end = (bytes : List ℕ) × Consumes left left' bytes × IsReadAs bytes capacity tape entries end
