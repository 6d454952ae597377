-- The image of a tape in a file: where each of its objects ends, and what the file holds.
use Rattle.std.specs.Prelude.{◌≡◌, ◌⊎◌, ℕ, ◌+◌, ◌-◌, List, [], ◌∷◌, ◌++◌, length, take, drop, map, slice_index_or, Option, IsSomeAnd}
use Rattle.tape_medium.specs.Object.{Object}
use Rattle.tape_image.specs.Images.{object_bytes, image_bytes, AreKeepable}
use Rattle.tape_image.specs.Reading.{Placed, Stop, Waiting, Reads}

-- where each object ends in the file, and the bytes of the file
pub record ImageValue : Type 0 where
  pub ends : List ℕ
  pub contents : Option (List ℕ)

abbrev pub image_value : (ends : List ℕ) → (contents : Option (List ℕ)) → ImageValue
image_value ends contents = record { ends = ends; contents = contents }

-- where the first so many objects end
abbrev pub end_at : (ends : List ℕ) → (count : ℕ) → ℕ
end_at ends count = slice_index_or (0 ∷ ends) count 0

-- where each object ends that is written from an offset on
abbrev pub ends_from : (offset : ℕ) → List Object → List ℕ
ends_from offset [] = []
ends_from offset (x ∷ others) = (offset + length (object_bytes x)) ∷ ends_from (offset + length (object_bytes x)) others

-- A PART of an image: the bytes of objects that follow one another from an offset on, and where each of them ends
pub record TapePartValue : Type 0 where
  pub bytes : List ℕ
  pub ends : List ℕ

-- it is that of some objects, each of which an image takes
pub record IsPart (offset : ℕ) (objects : List Object) (part : TapePartValue) : Type 0 where
  pub keepable : AreKeepable objects
  pub bytes : part.bytes ≡ image_bytes objects
  pub ends : part.ends ≡ ends_from offset objects

-- the objects of a tape behind the first `from`, up to one
abbrev pub between : (from to : ℕ) → List Object → List Object
between from to objects = take (to - from) (drop from objects)

-- WHAT THE FILE HOLDS, as images are read; nothing is said of a file whose bytes aren't known

abbrev pub object_in : Placed → Object
object_in placed = placed.object

-- one object and nothing behind it, perhaps behind erase gaps
abbrev pub HoldsOne : (offset end : ℕ) → List ℕ → Object → Type 0
HoldsOne offset end bytes x = (at : ℕ) × Reads offset bytes (record { offset = at; object = x } ∷ []) (Waiting end [])

-- these objects, each up to its end, and nothing behind the last
abbrev pub HoldsAll : (offset : ℕ) → List ℕ → List Object → (ends : List ℕ) → Type 0
HoldsAll offset bytes [] [] = bytes ≡ []
HoldsAll offset bytes [] (end ∷ ends) = ⊥
HoldsAll offset bytes (x ∷ others) [] = ⊥
HoldsAll offset bytes (x ∷ others) (end ∷ ends) =
    (part rest : List ℕ) × (bytes ≡ part ++ rest) × (end ≡ offset + length part) × HoldsOne offset end part x × HoldsAll end rest others ends

-- the first of these objects and no other, wherever reading stops
abbrev pub HoldsFirst : (offset : ℕ) → List ℕ → List Object → Type 0
HoldsFirst offset bytes objects =
    (found : List Placed) × (stop : Stop) × (others : List Object) × Reads offset bytes found stop × (map object_in found ++ others ≡ objects)

-- the image is that of these objects
abbrev pub IsWhole : ImageValue → List Object → Type 0
IsWhole image objects = IsSomeAnd image.contents (λ bytes. HoldsAll 0 bytes objects image.ends)

-- the image has these objects for sure, and behind them none, or the first of some others
abbrev pub IsHeld : ImageValue → (known others : List Object) → Type 0
IsHeld image known others =
    IsSomeAnd image.contents
    (λ bytes. (front tail : List ℕ) × (bytes ≡ front ++ tail) × HoldsAll 0 front known image.ends × HoldsFirst (length front) tail others)

-- what a part that fails leaves: the objects that stay, and behind them perhaps the first of those that were there, or of the new ones
abbrev pub Leaves : (stay : ℕ) → (known others objects : List Object) → ImageValue → Type 0
Leaves stay known others objects image = IsHeld image (take stay known) (drop stay known ++ others) ⊎ IsHeld image (take stay known) objects
