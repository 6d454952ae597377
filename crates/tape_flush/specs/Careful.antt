-- Calls that lose nothing, in whatever order they fail: what is known of a file by them, and which call is allowed then.
use Rattle.std.specs.Prelude.{◌≡◌, ℕ, ◌+◌, ◌≤◌, min, max, true, false, All, length, take}
use Rattle.tape_flush.specs.declared.known.Known.{Known}
use Rattle.tape_flush.specs.declared.known.FileTail.{FileTail}
use Rattle.tape_flush.specs.declared.known.FileTail.TheVariants.{Unknown, Cut, Empty}
use Rattle.tape_flush.specs.Stores.{StoreCall, Truncate, Append, Sync, Note, FileValue}

abbrev pub known_of : (least most synced sound : ℕ) → FileTail → Known
known_of least most synced sound tail = record { least = least; most = most; synced = synced; sound = sound; tail = tail }

-- of a file of which so many bytes are on the disk, as its record says
abbrev pub trusted_to : (trusted : ℕ) → Known
trusted_to trusted = known_of trusted trusted trusted trusted Unknown

-- behind a sync that answered Ok a cut lasts
abbrev pub lasting : FileTail → FileTail
lasting Unknown = Unknown
lasting Cut = Empty
lasting Empty = Empty

-- what is known after a call: bytes count as synced only by a sync that answered Ok, and only those that were as written before it
abbrev pub after : Known → StoreCall → Known
after k (Truncate size true) = known_of k.least k.most (min k.synced size) size Cut
after k (Truncate size false) = known_of k.least k.most (min k.synced size) size Unknown
after k (Append offset bytes true) = known_of k.least k.most k.synced (k.sound + length bytes) k.tail
after k (Append offset bytes false) = known_of k.least k.most k.synced k.sound Unknown
after k (Sync true) = known_of k.least k.most k.sound k.sound (lasting k.tail)
after k (Sync false) = known_of k.least k.most k.synced k.synced Unknown
after k (Note size true) = known_of size size k.synced k.sound k.tail
after k (Note size false) = known_of (min k.least size) (max k.most size) k.synced k.sound k.tail

-- which calls are allowed: a file is cut back to bytes that are as they were written, once the record on the disk says no more; it is
-- written on where it ends there, and what was cut off can't come back; the record says what is on the disk
abbrev pub Allowed : Known → StoreCall → Type 0
Allowed k (Truncate size is_ok) = (k.most ≤ size) × (size ≤ k.sound)
Allowed k (Append offset bytes is_ok) = (k.tail ≡ Empty) × (offset ≡ k.sound)
Allowed k (Sync is_ok) = Unit {0}
Allowed k (Note size is_ok) = size ≤ k.synced

-- A FILE WENT ON by allowed calls alone, of which each did what `did` says: from what was known first to what is known now
pub data GoesOn {S : Type 0} (did : S → StoreCall → S → Type 0) : S → Known → S → Known → Type 0 where
  stays : (file : S) (known : Known) → GoesOn did file known file known
  calls : (file before after' : S) (known known' : Known) (call : StoreCall) → GoesOn did file known before known' → Allowed known' call
      → did before call after' → GoesOn did file known after' (after known' call)

-- WHAT IS KNOWN IS SO, of a file whose bytes are known
abbrev pub EndsAt : FileTail → (size count : ℕ) → Type 0
EndsAt Unknown size count = Unit {0}
EndsAt Cut size count = size ≡ count
EndsAt Empty size count = size ≡ count

pub record IsKnown (known : Known) (file : FileValue) : Type 0 where
  pub noted_most : known.most ≤ known.synced
  pub in_order : known.synced ≤ known.sound
  pub synced : known.synced ≤ length file.synced
  pub same : take known.synced file.synced ≡ take known.synced file.contents
  pub sound : known.sound ≤ file.sound
  pub within : known.sound ≤ length file.contents
  pub end : EndsAt known.tail (length file.contents) known.sound
  pub noted : All (λ size. (known.least ≤ size) × (size ≤ known.most)) file.noted

-- at any time: the record says no more than what is on the disk, and this is as it was written; and it says no less than the least
abbrev pub IsInOrder : Known → Type 0
IsInOrder k = (k.most ≤ k.synced) × (k.synced ≤ k.sound) × (k.least ≤ k.most)
