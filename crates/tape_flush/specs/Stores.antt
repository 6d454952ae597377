-- A file that keeps an image: the calls that it answers, and what becomes of its bytes, where they are known.
use Rattle.std.specs.Prelude.{◌≡◌, ℕ, ◌≤◌, min, Bool, true, false, List, [], ◌∷◌, ◌++◌, length, take, Contains, Option, Some, None}

-- A CALL, and whether it answered Ok: the file is cut back to so many bytes; bytes are added at an offset, which is its end; it is brought
-- to the disk; its record on the disk says that so many bytes in front are there
pub data StoreCall : Type 0 where
  Truncate : (size : ℕ) → (is_ok : Bool) → StoreCall
  Append : (offset : ℕ) → (bytes : List ℕ) → (is_ok : Bool) → StoreCall
  Sync : (is_ok : Bool) → StoreCall
  Note : (size : ℕ) → (is_ok : Bool) → StoreCall

-- A FILE whose bytes are known
pub record FileValue : Type 0 where
  -- what reads give
  pub contents : List ℕ
  -- so many of them in front are as they were written: a sync that answers Ok brings these to the disk
  pub sound : ℕ
  -- a power cut leaves a file that begins with these, whatever lies behind them
  pub synced : List ℕ
  -- what its record may say after a power cut
  pub noted : List ℕ

abbrev pub file_value : (contents : List ℕ) → (sound : ℕ) → (synced noted : List ℕ) → FileValue
file_value contents sound synced noted = record { contents = contents; sound = sound; synced = synced; noted = noted }

-- bytes are added behind those that are there; if these were all as they were written, all are
pub record Grows (old new : FileValue) (bytes : List ℕ) : Type 0 where
  pub contents : new.contents ≡ old.contents ++ bytes
  pub sound : old.sound ≤ new.sound
  pub all_sound : length old.contents ≤ old.sound → length new.contents ≤ new.sound
  pub synced : new.synced ≡ old.synced
  pub noted : new.noted ≡ old.noted

-- a sync that fails forgets: the file has what was brought to the disk before, and behind it anything
pub record Forgets (old new : FileValue) : Type 0 where
  pub front : take (length old.synced) new.contents ≡ take (length old.synced) old.contents
  pub sound : new.sound ≡ length old.synced
  pub synced : new.synced ≡ old.synced
  pub noted : new.noted ≡ old.noted

-- WHAT A CALL DOES
abbrev pub Does : StoreCall → (old new : FileValue) → Type 0
Does (Truncate size true) old new = new ≡ file_value (take size old.contents) (min old.sound size) (take size old.synced) old.noted
Does (Truncate size false) old new =
    (left : ℕ) × (size ≤ left) × (new ≡ file_value (take left old.contents) (min old.sound size) (take size old.synced) old.noted)
Does (Append offset bytes true) old new = (offset ≡ length old.contents) × Grows old new bytes
Does (Append offset bytes false) old new = (count : ℕ) × Grows old new (take count bytes)
Does (Sync true) old new = new ≡ file_value old.contents old.sound (take old.sound old.contents) old.noted
Does (Sync false) old new = Forgets old new
Does (Note size true) old new = new ≡ file_value old.contents old.sound old.synced (size ∷ [])
Does (Note size false) old new = new ≡ file_value old.contents old.sound old.synced (size ∷ old.noted)

-- the same of a file whose bytes may be unknown, then always
abbrev pub DoesTo : StoreCall → (old new : Option FileValue) → Type 0
DoesTo call None None = Unit {0}
DoesTo call None (Some new) = ⊥
DoesTo call (Some old) None = ⊥
DoesTo call (Some old) (Some new) = Does call old new

-- A NEW FILE, without a byte: a power cut finds none of it, and its record says no more
abbrev pub IsNewFile : Option FileValue → Type 0
IsNewFile None = Unit {0}
IsNewFile (Some file) = file ≡ file_value [] 0 [] (0 ∷ [])

-- A POWER CUT: the bytes that may be found then, and what the record may say
abbrev pub Survives : FileValue → (found : List ℕ) → (noted : ℕ) → Type 0
Survives file found noted = (take (length file.synced) found ≡ file.synced) × Contains file.noted noted

-- the bytes of a file, where they are known
abbrev pub contents_of : Option FileValue → Option (List ℕ)
contents_of None = None
contents_of (Some file) = Some file.contents

-- some bytes of a file were cut off, behind so many at least, and then some bytes added
abbrev pub Replaces : (count : ℕ) → (old new : Option (List ℕ)) → (piece : List ℕ) → Type 0
Replaces count None new piece = Unit {0}
Replaces count (Some bytes) None piece = ⊥
Replaces count (Some bytes) (Some bytes') piece = bytes' ≡ take count bytes ++ piece

-- the file is cut back to so many bytes, or to more, also not at all
abbrev pub Truncates : (count : ℕ) → (old new : Option (List ℕ)) → Type 0
Truncates count None new = Unit {0}
Truncates count (Some bytes) None = ⊥
Truncates count (Some bytes) (Some bytes') = bytes' ≡ take count bytes
