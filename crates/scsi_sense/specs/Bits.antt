-- Bits and numbers in bytes.
use Rattle.std.specs.Prelude.{ℕ, ◌+◌, ◌*◌, ◌/◌, ◌%◌, ◌^◌, ◌==◌, Bool, List, [], ◌∷◌, slice_index, if◌then◌else◌}

-- bit k of byte b
abbrev pub bit : ℕ → ℕ → Bool
bit b k = b / 2 ^ k % 2 == 1

-- a field of one bit
abbrev pub flag : ℕ → Bool → ℕ
flag k b = if b then 2 ^ k else 0

-- the bytes of a number of four bytes, the highest first
abbrev pub four : ℕ → List ℕ
four n = n / 2 ^ 24 % 256 ∷ n / 2 ^ 16 % 256 ∷ n / 2 ^ 8 % 256 ∷ n % 256 ∷ []

-- the number in the four bytes from byte i
abbrev pub four_bytes : List ℕ → ℕ → ℕ
four_bytes bytes i =
    slice_index bytes i * 2 ^ 24 + slice_index bytes (i + 1) * 2 ^ 16 + slice_index bytes (i + 2) * 2 ^ 8
    + slice_index bytes (i + 3)
