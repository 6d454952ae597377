-- A file with what is known of it, and what becomes of its bytes.
use Rattle.std.specs.Prelude.{◌≡◌, ◌⊎◌, ℕ, ◌≤◌, List, ◌++◌, length, take, Option, Some, None}
use Rattle.tape_flush.specs.declared.fault.FlushFault.{FlushFault}
use Rattle.tape_flush.specs.declared.fault.FlushFault.TheVariants.{NoMemory, PastLastOffset, Store, Unsynced}
use Rattle.tape_flush.specs.declared.known.Known.{Known}
use Rattle.tape_flush.specs.declared.known.FileTail.TheVariants.{Empty}
use Rattle.tape_flush.specs.Stores.{FileValue}
use Rattle.tape_flush.specs.Careful.{IsKnown}

pub record WatchedValue (S : Type 0) : Type 0 where
  pub store : S
  pub known : Known

-- it may be written on, behind so many bytes
abbrev pub IsEmptyAt : (size : ℕ) → Known → Type 0
IsEmptyAt size known = (known.tail ≡ Empty) × (known.sound ≡ size)

-- the same bytes
abbrev pub Same : (old new : Option (List ℕ)) → Type 0
Same None new = Unit {0}
Same (Some bytes) None = ⊥
Same (Some bytes) (Some bytes') = bytes' ≡ bytes

-- a piece is added at an offset, which is the file's end; or the first of its bytes
abbrev pub Adds : (offset : ℕ) → (piece : List ℕ) → (old new : Option (List ℕ)) → Type 0
Adds offset piece None new = Unit {0}
Adds offset piece (Some bytes) None = ⊥
Adds offset piece (Some bytes) (Some bytes') = (offset ≡ length bytes) × (bytes' ≡ bytes ++ piece)

abbrev pub AddsInPart : (piece : List ℕ) → (old new : Option (List ℕ)) → Type 0
AddsInPart piece None new = Unit {0}
AddsInPart piece (Some bytes) None = ⊥
AddsInPart piece (Some bytes) (Some bytes') = (count : ℕ) × (bytes' ≡ bytes ++ take count piece)

-- A FILE WAS TO BE CUT BACK to so many bytes, and a piece was to be added, and that failed. It may have more of its bytes, also all; or these
-- and the first of the piece; behind a sync that failed nothing is said
abbrev pub Left : (size : ℕ) → (piece bytes bytes' : List ℕ) → Type 0
Left size piece bytes bytes' =
    ((left : ℕ) × (size ≤ left) × (bytes' ≡ take left bytes)) ⊎ ((count : ℕ) × (bytes' ≡ take size bytes ++ take count piece))

abbrev pub LeftUnless : (size : ℕ) → (piece : List ℕ) → Known → (bytes bytes' : List ℕ) → FlushFault → Type 0
LeftUnless size piece known bytes bytes' (Unsynced fault) = Unit {0}
LeftUnless size piece known bytes bytes' NoMemory = (size ≤ known.sound) × Left size piece bytes bytes'
LeftUnless size piece known bytes bytes' PastLastOffset = (size ≤ known.sound) × Left size piece bytes bytes'
LeftUnless size piece known bytes bytes' (Store fault) = (size ≤ known.sound) × Left size piece bytes bytes'

-- what is as it was written then was so before
pub record Stopped (size : ℕ) (piece : List ℕ) (known : Known) (file : FileValue) (known' : Known) (file' : FileValue) (fault : FlushFault) : Type 0 where
  pub shrinks : known'.sound ≤ known.sound
  pub stays : take known'.sound file'.contents ≡ take known'.sound file.contents
  pub left : LeftUnless size piece known' file.contents file'.contents fault

-- of a file of which what is known is so
abbrev pub IsStopped : (size : ℕ) → (piece : List ℕ) → Known → Option FileValue → Known → Option FileValue → FlushFault → Type 0
IsStopped size piece known None known' new fault = Unit {0}
IsStopped size piece known (Some file) known' None fault = ⊥
IsStopped size piece known (Some file) known' (Some file') fault = IsKnown known file → Stopped size piece known file known' file' fault
