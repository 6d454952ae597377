-- What reads add.
use Rattle.std.specs.Prelude.{◌≡◌, ℕ, ◌+◌, List, ◌++◌, length, take, Option}
use Rattle.std.specs.Io.KnownBytes.{Consumes}

-- one, to what is pending
abbrev pub Filled : ℕ → (pending pending' : List ℕ) → (left left' : Option (List ℕ)) → Type 0
Filled n pending pending' left left' = (piece : List ℕ) × (pending' ≡ pending ++ piece) × (length piece ≡ n) × Consumes left left' piece

-- several, to what is pending
abbrev pub Added : (pending pending' : List ℕ) → (left left' : Option (List ℕ)) → Type 0
Added pending pending' left left' = (piece : List ℕ) × (pending' ≡ pending ++ piece) × Consumes left left' piece

-- one, to a buffer, behind a place
abbrev pub ReadBehind : (at n : ℕ) → (buffer buffer' : List ℕ) → (left left' : Option (List ℕ)) → Type 0
ReadBehind at n buffer buffer' left left' =
    (piece : List ℕ) × (take (at + n) buffer' ≡ take at buffer ++ piece) × (length piece ≡ n) × Consumes left left' piece
