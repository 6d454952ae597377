-- An image that was brought to the disk: by which calls of its file, and what the disk has then (profile, after fdatasync of POSIX,
-- "Synchronized I/O Data Integrity Completion").
use Rattle.std.specs.Prelude.{◌≡◌, ◌⊎◌, ℕ, ◌≤◌, true, [], ◌∷◌, All, length, take, Option, Some, None}
use Rattle.tape_flush.specs.Stores.{StoreCall, Sync, Note, FileValue}
use Rattle.tape_flush.specs.Saved.{SavedImageValue, IsOnDisk, last_end}

-- BY WHICH CALLS, of any store: its file was synced as it was, then its record was told where the last object ends, and both answered Ok
abbrev pub SyncedAndNoted : {S : Type 0} → (did : S → StoreCall → S → Type 0) → (size : ℕ) → (before after : S) → Type 0
SyncedAndNoted {S = S} did size before after = (between : S) × did before (Sync true) between × did between (Note size true) after

abbrev pub IsBrought : {S : Type 0} → (did : S → StoreCall → S → Type 0) → (before after : SavedImageValue S) → Type 0
IsBrought did before after = SyncedAndNoted did (last_end before.ends) before.store after.store

-- or it was there before, and nothing was done
abbrev pub IsBroughtOrThere : {S : Type 0} → (did : S → StoreCall → S → Type 0) → (before after : SavedImageValue S) → Type 0
IsBroughtOrThere did before after = (IsOnDisk before × (after ≡ before)) ⊎ IsBrought did before after

-- WHAT THE DISK HAS THEN: just the bytes that the file had, which are so many, and a record of just these
pub record IsJustThat (size : ℕ) (before after : FileValue) : Type 0 where
  pub count : length before.contents ≡ size
  pub contents : after.contents ≡ before.contents
  pub synced : after.synced ≡ before.contents
  pub noted : after.noted ≡ size ∷ []

-- of a file whose bytes are known
abbrev pub IsJustThatIn : (size : ℕ) → (before after : Option FileValue) → Type 0
IsJustThatIn size None after = ⊥
IsJustThatIn size (Some before) None = ⊥
IsJustThatIn size (Some before) (Some after) = IsJustThat size before after

abbrev pub HasJustThat : {S : Type 0} → (before after : SavedImageValue S) → Type 0
HasJustThat before after = IsJustThatIn (last_end before.ends) before.file after.file

-- its first so many bytes are on the disk, and no record there says fewer
pub record IsThere (size : ℕ) (file : FileValue) : Type 0 where
  pub within : size ≤ length file.synced
  pub same : take size file.synced ≡ take size file.contents
  pub noted : All (λ told. size ≤ told) file.noted

abbrev pub IsThereIn : (size : ℕ) → Option FileValue → Type 0
IsThereIn size None = ⊥
IsThereIn size (Some file) = IsThere size file

abbrev pub HasItsObjectsThere : {S : Type 0} → SavedImageValue S → Type 0
HasItsObjectsThere kept = IsThereIn (last_end kept.ends) kept.file
