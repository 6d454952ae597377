-- The bytes of an image (SIMH Magtape Representation and Handling): each logical object between its length and its length again.
use Rattle.std.specs.Prelude.{ℕ, ◌+◌, ◌%◌, ◌≤◌, List, [], ◌∷◌, ◌++◌, length, replicate}
use Rattle.byteorder.specs.Endian.{little_bytes}
use Rattle.tape_medium.specs.Limits.{block_limit}
use Rattle.tape_medium.specs.Object.{Object, Block, Mark}

-- a zero byte behind a block of odd length
abbrev pub pad : ℕ → List ℕ
pad size = replicate (size % 2) 0

-- the bytes of a block with its pad
abbrev pub padded : ℕ → ℕ
padded size = size + size % 2

-- a block of so many bytes and its pad lie between two lengths of four bytes
abbrev pub block_count : ℕ → ℕ
block_count size = 8 + padded size

-- a filemark is the length 0 alone
abbrev pub object_bytes : Object → List ℕ
object_bytes (Block bytes) = little_bytes 4 (length bytes) ++ bytes ++ pad (length bytes) ++ little_bytes 4 (length bytes)
object_bytes Mark = 0 ∷ 0 ∷ 0 ∷ 0 ∷ []

-- its objects one after another
abbrev pub image_bytes : List Object → List ℕ
image_bytes [] = []
image_bytes (object ∷ others) = object_bytes object ++ image_bytes others

-- a block has at least one byte, and as many as on a tape at the most
abbrev pub IsKeepable : Object → Type 0
IsKeepable (Block bytes) = (1 ≤ length bytes) × (length bytes ≤ block_limit)
IsKeepable Mark = Unit {0}

abbrev pub AreKeepable : List Object → Type 0
AreKeepable [] = Unit {0}
AreKeepable (object ∷ others) = IsKeepable object × AreKeepable others
