-- What one read adds.
use Rattle.std.specs.Prelude.{◌≡◌, ℕ, ◌+◌, List, ◌++◌, length, take, drop, Option}
use Rattle.std.specs.Io.KnownBytes.{Consumes}

-- to what is pending
abbrev pub Filled : ℕ → (pending pending' : List ℕ) → (left left' : Option (List ℕ)) → Type 0
Filled n pending pending' left left' = (piece : List ℕ) × (pending' ≡ pending ++ piece) × (length piece ≡ n) × Consumes left left' piece

-- what several reads add to what is pending
abbrev pub Added : (pending pending' : List ℕ) → (left left' : Option (List ℕ)) → Type 0
Added pending pending' left left' = (piece : List ℕ) × (pending' ≡ pending ++ piece) × Consumes left left' piece

-- to a buffer, behind a place
abbrev pub ReadBehind : (at n : ℕ) → (buffer buffer' : List ℕ) → (left left' : Option (List ℕ)) → Type 0
ReadBehind at n buffer buffer' left left' =
    (piece : List ℕ) × (take (at + n) buffer' ≡ take at buffer ++ piece) × (length piece ≡ n) × Consumes left left' piece

-- to what lay in a buffer from a place on, so many bytes, and was moved to its front
abbrev pub Refilled : (start pending n : ℕ) → (buffer buffer' : List ℕ) → (left left' : Option (List ℕ)) → Type 0
Refilled start pending n buffer buffer' left left' =
    (piece : List ℕ) × (take (pending + n) buffer' ≡ take pending (drop start buffer) ++ piece) × (length piece ≡ n) × Consumes left left' piece
