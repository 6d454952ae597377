-- What a file is opened as that a power cut left.
use Rattle.std.specs.Prelude.{◌≡◌, ℕ, ◌≤◌, List, ◌++◌, length, map}
use Rattle.tape_medium.specs.Object.{Object}
use Rattle.tape_image.specs.Reading.{Placed, Stop, Reads}
use Rattle.tape_flush.specs.Images.{object_in, end_at}

-- its bytes hold the first of some objects and no other, with all of those that end within so many bytes
pub record OpensAs (least : ℕ) (ends : List ℕ) (objects : List Object) (bytes : List ℕ) : Type 0 where
  pub found : List Placed
  pub stop : Stop
  pub others : List Object
  pub reads : Reads 0 bytes found stop
  pub are : map object_in found ++ others ≡ objects
  pub at_least : (count : ℕ) → count ≤ length ends → end_at ends count ≤ least → count ≤ length found
