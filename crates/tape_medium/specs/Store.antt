use Rattle.std.specs.Prelude.{ℕ, ◌+◌, ◌≤◌, zero, suc, ◌==◌, List, length, [], ◌∷◌, slice_range, if◌then◌else◌}
use Rattle.tape_medium.specs.Object.{Object, Block, Mark}
use Rattle.tape_medium.specs.Pieces.{PieceView, IsHome}
use Rattle.tape_medium.specs.declared.index.Place.{Place}

-- the object between two ends in the store: a filemark takes no bytes, and each block takes some
abbrev pub object : List ℕ → ℕ → ℕ → Object
object bytes start end = if end == start then Mark else Block (slice_range bytes start end)

-- the objects that the ends show, each from where the one before it ends
abbrev pub objects_in : List ℕ → ℕ → List ℕ → List Object
objects_in bytes start [] = []
objects_in bytes start (end ∷ ends) = object bytes start end ∷ objects_in bytes end ends

-- where the last object ends
abbrev pub end_after : ℕ → List ℕ → ℕ
end_after start [] = start
end_after start (end ∷ ends) = end_after end ends

-- the ends of so many blocks of one size
abbrev pub block_ends : ℕ → ℕ → ℕ → List ℕ
block_ends size zero start = []
block_ends size (suc count) start = (start + size) ∷ block_ends size count (start + size)

-- ends never fall
abbrev pub IsIndex : ℕ → List ℕ → Type 0
IsIndex start [] = Unit {0}
IsIndex start (end ∷ ends) = (start ≤ end) × IsIndex end ends

-- what the bytes of a store and its ends keep between its calls
pub record IsKept (bytes : List ℕ) (ends : List ℕ) : Type 0 where
  pub ordered : IsIndex 0 ends
  pub whole : end_after 0 ends ≤ length bytes

-- where the objects end
abbrev pub ends_of : List Place → List ℕ
ends_of [] = []
ends_of (place ∷ places) = place.end ∷ ends_of places

-- the piece of the last object
abbrev pub home_after : ℕ → List Place → ℕ
home_after home [] = home
home_after home (place ∷ places) = home_after place.home places

-- where so many blocks of one size end, all in one piece
abbrev pub block_places : ℕ → ℕ → ℕ → ℕ → List Place
block_places size zero start home = []
block_places size (suc count) start home = record { end = start + size; home = home } ∷ block_places size count (start + size) home

-- each object lies in its piece, or where it ends if it takes no bytes, and none in an earlier piece than the one before it
abbrev pub AreHoused : List PieceView → ℕ → ℕ → List Place → Type 0
AreHoused pieces start home [] = Unit {0}
AreHoused pieces start home (place ∷ places) =
    (home ≤ place.home) × IsHome pieces place.home start place.end × AreHoused pieces place.end place.home places
