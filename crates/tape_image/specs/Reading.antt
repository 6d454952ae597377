-- An image that is read: its objects, each with its offset in bytes, and where reading stopped.
use Rattle.std.specs.Prelude.{◌≡◌, ℕ, ◌+◌, ◌-◌, ◌==◌, nat_le, List, [], ◌∷◌, ◌++◌, length, take, drop, if◌then◌else◌}
use Rattle.tape_medium.specs.Object.{Object}
use Rattle.tape_image.specs.declared.fault.ImageFault.{ImageFault}
use Rattle.tape_image.specs.declared.ending.ImageEnd.{ImageEnd}
use Rattle.tape_image.specs.declared.ending.ImageEnd.TheVariants.{WholeEnd, CutTail, Faulty}
use Rattle.tape_image.specs.Images.{object_bytes, image_bytes}
use Rattle.tape_image.specs.Parts.{Partial, Complete, Gap, End, Invalid, image_part}

pub record Placed : Type 0 where
  pub offset : ℕ
  pub object : Object

-- where the last whole part ends: before bytes that are no whole part, of which there may be none, before the end mark, or before a fault
pub data Stop : Type 0 where
  Waiting : (whole : ℕ) → (rest : List ℕ) → Stop
  Ended : (whole : ℕ) → Stop
  Broken : (whole : ℕ) → ImageFault → Stop

-- from an offset on such bytes hold these objects, and there reading stops
pub data Reads : ℕ → List ℕ → List Placed → Stop → Type 0 where
  partial : (offset : ℕ) (bytes : List ℕ) (wanted : ℕ) → image_part bytes ≡ Partial wanted → Reads offset bytes [] (Waiting offset bytes)
  ended : (offset : ℕ) (bytes : List ℕ) → image_part bytes ≡ End → Reads offset bytes [] (Ended offset)
  faulty : (offset : ℕ) (bytes : List ℕ) (fault : ImageFault) → image_part bytes ≡ Invalid fault → Reads offset bytes [] (Broken offset fault)
  gap : (offset : ℕ) (bytes : List ℕ) (others : List Placed) (stop : Stop) → image_part bytes ≡ Gap
      → Reads (offset + 4) (drop 4 bytes) others stop → Reads offset bytes others stop
  object : (offset : ℕ) (bytes : List ℕ) (x : Object) (count : ℕ) (others : List Placed) (stop : Stop) → image_part bytes ≡ Complete x count
      → Reads (offset + count) (drop count bytes) others stop → Reads offset bytes (record { offset = offset; object = x } ∷ others) stop

-- how an image ends, before which there are so many objects: behind its last whole part; with a tail that was cut, of which so many
-- bytes are lost; or by a fault
abbrev pub image_end : (objects : ℕ) → Stop → ImageEnd
image_end objects (Waiting whole []) = WholeEnd whole
image_end objects (Waiting whole (byte ∷ more)) = CutTail whole (length (byte ∷ more))
image_end objects (Ended whole) = WholeEnd whole
image_end objects (Broken whole fault) = Faulty fault objects whole

-- objects that were written one after another, from an offset on
abbrev pub placed : ℕ → List Object → List Placed
placed offset [] = []
placed offset (x ∷ others) = record { offset = offset; object = x } ∷ placed (offset + length (object_bytes x)) others

-- those of them that lie whole within so many bytes
abbrev pub whole_within : ℕ → List Object → List Object
whole_within count [] = []
whole_within count (x ∷ others) =
    if nat_le (length (object_bytes x)) count then x ∷ whole_within (count - length (object_bytes x)) others else []

-- where reading stops of them, if they are cut behind so many bytes: where the last of these ends
abbrev pub cut_stop : (offset count : ℕ) → List Object → Stop
cut_stop offset count xs =
    Waiting (offset + length (image_bytes (whole_within count xs))) (drop (length (image_bytes (whole_within count xs))) (take count (image_bytes xs)))

-- what more bytes add to what was read: behind the end mark and behind a fault nothing is read
abbrev pub GoesOn : Stop → List ℕ → List Placed → Stop → Type 0
GoesOn (Waiting whole rest) more objects stop = Reads whole (rest ++ more) objects stop
GoesOn (Ended whole) more objects stop = (objects ≡ []) × (stop ≡ Ended whole)
GoesOn (Broken whole fault) more objects stop = (objects ≡ []) × (stop ≡ Broken whole fault)

-- up to which offset an image is whole
abbrev pub whole_of : Stop → ℕ
whole_of (Waiting whole rest) = whole
whole_of (Ended whole) = whole
whole_of (Broken whole fault) = whole

-- how an image ends that is cut behind so many bytes, and whole up to some of them
abbrev pub cut_end : (count whole : ℕ) → ImageEnd
cut_end count whole = if count == whole then WholeEnd whole else CutTail whole (count - whole)
