-- The image of a tape, with what is known of its file, and how it is brought on.
use Rattle.std.specs.Prelude.{◌≡◌, ◌⊎◌, ℕ, ◌≤◌, ◌<◌, min, nat_le, Bool, true, List, ◌++◌, length, take, drop, take_while, Option, Some, None}
use Rattle.tape_medium.specs.Object.{Object}
use Rattle.tape_medium.specs.TapeView.{TapeView}
use Rattle.tape_medium.specs.Tape.{settled}
use Rattle.tape_medium.specs.Changes.{Changes}
use Rattle.tape_flush.specs.declared.fault.FlushFault.{FlushFault}
use Rattle.tape_flush.specs.declared.fault.FlushFault.TheVariants.{NoMemory, PastLastOffset, Store, Unsynced}
use Rattle.tape_flush.specs.declared.known.Known.{Known}
use Rattle.tape_flush.specs.declared.part_range.PartRange.{PartRange}
use Rattle.tape_flush.specs.Stores.{FileValue, contents_of}
use Rattle.tape_flush.specs.Careful.{IsKnown}
use Rattle.tape_flush.specs.Watched.{IsEmptyAt}
use Rattle.tape_flush.specs.Images.{ImageValue, image_value, TapePartValue, end_at, between, IsPart, IsHeld, HoldsAll, HoldsFirst}

pub record SavedImageValue (S : Type 0) : Type 0 where
  -- where each object ends that the file has for sure
  pub ends : List ℕ
  -- what is known of the file
  pub known : Known
  -- the file, and its bytes, where they are known
  pub store : S
  pub file : Option FileValue
  -- whether the file has no other objects, as it was found, and nothing was written to it
  pub untouched : Bool

abbrev pub image_of : {S : Type 0} → SavedImageValue S → ImageValue
image_of kept = image_value kept.ends (contents_of kept.file)

-- where its last object ends
abbrev pub last_end : List ℕ → ℕ
last_end ends = end_at ends (length ends)

-- of some ends the first, up to so many bytes
abbrev pub ends_within : (size : ℕ) → List ℕ → List ℕ
ends_within size ends = take_while (λ end. nat_le end size) ends

-- it has these objects and nothing behind them, and may be written on
abbrev pub IsWholeImage : {S : Type 0} → SavedImageValue S → Type 0
IsWholeImage kept = IsEmptyAt (last_end kept.ends) kept.known

-- each of its objects is on the disk, and so says its record
abbrev pub IsOnDisk : {S : Type 0} → SavedImageValue S → Type 0
IsOnDisk kept = last_end kept.ends ≤ kept.known.least

-- it is as it was found, and has just the objects of a tape of which a part was to be taken
abbrev pub IsUnchanged : {S : Type 0} → SavedImageValue S → PartRange → Type 0
IsUnchanged kept range = (kept.untouched ≡ true) × (range.stay ≡ length kept.ends) × (range.count ≡ range.stay)

-- WHAT A FILE HOLDS: what is known of it is so; of the bytes that are as they were written the first hold these objects, and those behind
-- them a beginning of some others. Of what lies behind these nothing is said
pub record Holds (file : FileValue) (known : Known) (ends : List ℕ) (objects others : List Object) : Type 0 where
  pub is_known : IsKnown known file
  pub front : List ℕ
  pub behind : List ℕ
  pub bytes : take known.sound file.contents ≡ front ++ behind
  pub objects_are : HoldsAll 0 front objects ends
  pub others_begin : HoldsFirst (length front) behind others

abbrev pub HoldsIn : Option FileValue → Known → (ends : List ℕ) → (objects others : List Object) → Type 0
HoldsIn None known ends objects others = ⊥
HoldsIn (Some file) known ends objects others = Holds file known ends objects others

abbrev pub Has : {S : Type 0} → SavedImageValue S → (objects others : List Object) → Type 0
Has kept objects others = HoldsIn kept.file kept.known kept.ends objects others

-- the first of some objects, as many as it has ends, and a beginning of others
abbrev pub HasFirstOf : {S : Type 0} → List Object → SavedImageValue S → Type 0
HasFirstOf objects kept = (others : List Object) × Has kept (take (length kept.ends) objects) others

-- as far as a tape counts as unchanged, an image of these objects has those of the tape
abbrev pub FollowsUpTo : (count : ℕ) → (known objects : List Object) → Type 0
FollowsUpTo count known objects = take count known ≡ take count objects

abbrev pub Follows : (known : List Object) → TapeView → Type 0
Follows known tape = FollowsUpTo (min tape.unchanged (length known)) known tape.objects

-- a part is taken of a tape for its image: what follows on the tape behind the objects that stay
pub record IsTaken {S : Type 0} (kept : SavedImageValue S) (tape : TapeView) (range : PartRange) (part : TapePartValue) : Type 0 where
  pub stay : range.stay ≡ min tape.unchanged (length kept.ends)
  pub rising : range.stay ≤ range.end
  pub within : range.end ≤ length tape.objects
  pub some : range.stay < length tape.objects → range.stay < range.end
  pub count : range.count ≡ length tape.objects
  pub taken : IsPart (end_at kept.ends range.stay) (between range.stay range.end tape.objects) part

-- an image has those objects of the tape that stay, and behind them perhaps the first of those that it had there, or of the part
abbrev pub Begins : PartRange → TapeView → (known others : List Object) → ImageValue → Type 0
Begins range tape known others image =
    IsHeld image (take range.stay tape.objects) (drop range.stay known ++ others)
    ⊎ IsHeld image (take range.stay tape.objects) (between range.stay range.end tape.objects)

-- which is so, unless a sync failed
abbrev pub BeginsUnless : PartRange → TapeView → (known others : List Object) → ImageValue → FlushFault → Type 0
BeginsUnless range tape known others image (Unsynced fault) = Unit {0}
BeginsUnless range tape known others image NoMemory = Begins range tape known others image
BeginsUnless range tape known others image PastLastOffset = Begins range tape known others image
BeginsUnless range tape known others image (Store fault) = Begins range tape known others image

-- an image of the first objects of a tape that was settled then, as many or fewer, follows what becomes of the tape
abbrev pub ImagesFollowTapes : Type 0
ImagesFollowTapes =
    (tape after : TapeView) (end stay : ℕ) → end ≤ length tape.objects → stay ≤ end → Changes (settled tape end) after → Follows (take stay tape.objects) after
