-- What a changer knows of a volume's source, beside the journey that the volume made.
use Rattle.std.specs.Prelude.{◌≡◌, ◌≢◌, ℕ, ◌==◌, List, [], ◌∷◌, Option, Some, None, is_some, IsTrue, if◌then◌else◌}
use Rattle.element_sources.specs.declared.place.Place.{Place}
use Rattle.element_sources.specs.declared.place.Place.TheVariants.{DataTransfer, ImportExport, Storage}
use Rattle.element_sources.specs.Sources.{Sources, place_at, source_at, last_outside, source_moved, source_exchanged}

-- from one element to another, or by an EXCHANGE MEDIUM from the first destination to the second and from the source to the first
pub data Move : Type 0 where
  Carried : (source destination : ℕ) → Move
  Exchanged : (source first second : ℕ) → Move

-- the address of the element where a volume is, and of the one where it was last outside a drive
pub record Journey : Type 0 where
  pub address : ℕ
  pub outside : ℕ

-- a move into a drive leaves where the volume was last outside one
abbrev pub outside_after : Option Place → (destination before : ℕ) → ℕ
outside_after None destination before = before
outside_after (Some (DataTransfer i)) destination before = before
outside_after (Some (ImportExport i)) destination before = destination
outside_after (Some (Storage i)) destination before = destination

-- the journey of a volume that arrives in an element
abbrev pub arrived : Sources → Journey → (destination : ℕ) → Journey
arrived s j destination = record { address = destination; outside = outside_after (place_at s destination) destination j.outside }

-- the journey after a move, of this volume or of another
abbrev pub travelled : Sources → Journey → Move → Journey
travelled s j (Carried source destination) = if source == j.address then arrived s j destination else j
travelled s j (Exchanged source first second) =
    if source == j.address then arrived s j first else if first == j.address then arrived s j second else j

abbrev pub noted : Sources → Move → Sources
noted s (Carried source destination) = source_moved s source destination
noted s (Exchanged source first second) = source_exchanged s source first second

-- after some moves, the first of them first
abbrev pub noted_all : Sources → List Move → Sources
noted_all s [] = s
noted_all s (move ∷ moves) = noted_all (noted s move) moves

abbrev pub travelled_all : Sources → Journey → List Move → Journey
travelled_all s j [] = j
travelled_all s j (move ∷ moves) = travelled_all (noted s move) (travelled s j move) moves

-- a move from element to element, whose destination isn't full with the volume
pub record IsCarried (s : Sources) (j : Journey) (source destination : ℕ) : Type 0 where
  pub from : IsTrue (is_some (place_at s source))
  pub to : IsTrue (is_some (place_at s destination))
  pub elsewhere : destination ≢ j.address

-- and an exchange between elements, whose second destination isn't full with the volume either, unless it is the source
pub record IsExchanged (s : Sources) (j : Journey) (source first second : ℕ) : Type 0 where
  pub from : IsTrue (is_some (place_at s source))
  pub between : IsTrue (is_some (place_at s first))
  pub to : IsTrue (is_some (place_at s second))
  pub not_source : source ≢ first
  pub not_second : first ≢ second
  pub elsewhere : second ≡ j.address → second ≡ source

abbrev pub IsMove : Sources → Journey → Move → Type 0
IsMove s j (Carried source destination) = IsCarried s j source destination
IsMove s j (Exchanged source first second) = IsExchanged s j source first second

abbrev pub AreMoves : Sources → Journey → List Move → Type 0
AreMoves s j [] = Unit {0}
AreMoves s j (move ∷ moves) = IsMove s j move × AreMoves (noted s move) (travelled s j move) moves

-- where the volume in an element was last outside a drive, as far as it is known
abbrev pub origin_in : Sources → (address : ℕ) → Option Place → Option ℕ
origin_in s address None = None
origin_in s address (Some place) = last_outside s address place

abbrev pub origin_at : Sources → (address : ℕ) → Option ℕ
origin_at s address = origin_in s address (place_at s address)

-- known of one volume
abbrev pub IsKnown : Sources → Journey → Type 0
IsKnown s j = origin_at s j.address ≡ Some j.outside

-- it stays known, whatever moves and exchanges are done: so a drive's source is the element where its volume was last outside a drive
abbrev pub OriginsStayKnown : Type 0
OriginsStayKnown = (s : Sources) (j : Journey) (moves : List Move) → AreMoves s j moves → IsKnown s j
    → IsKnown (noted_all s moves) (travelled_all s j moves)

-- of a volume outside drives it is known
abbrev pub StartsKnown : Type 0
StartsKnown = (s : Sources) (address i : ℕ) → place_at s address ≡ Some (Storage i) → IsKnown s (record { address = address; outside = address })

-- and in a drive it is the source
abbrev pub DrivesHaveOrigins : Type 0
DrivesHaveOrigins = (s : Sources) (j : Journey) (i : ℕ) → place_at s j.address ≡ Some (DataTransfer i) → IsKnown s j
    → source_at s j.address ≡ Some j.outside

-- a move changes the sources of its two elements alone
abbrev pub OthersStay : Type 0
OthersStay = (s : Sources) (source destination address : ℕ) → address ≢ source → address ≢ destination
    → source_at (source_moved s source destination) address ≡ source_at s address

-- and leaves none where it took the volume
abbrev pub SourceIsLeft : Type 0
SourceIsLeft = (s : Sources) (source destination : ℕ) → source ≢ destination
    → IsTrue (is_some (place_at s source)) → IsTrue (is_some (place_at s destination))
    → source_at (source_moved s source destination) source ≡ None

-- the same of an exchange, after which the source element has none unless it is the second destination
abbrev pub OthersStayInExchanges : Type 0
OthersStayInExchanges = (s : Sources) (source first second address : ℕ) → address ≢ source → address ≢ first → address ≢ second
    → source_at (source_exchanged s source first second) address ≡ source_at s address

abbrev pub SourceIsLeftInExchanges : Type 0
SourceIsLeftInExchanges = (s : Sources) (source first second : ℕ) → source ≢ first → source ≢ second
    → IsTrue (is_some (place_at s source)) → IsTrue (is_some (place_at s first)) → IsTrue (is_some (place_at s second))
    → source_at (source_exchanged s source first second) source ≡ None
