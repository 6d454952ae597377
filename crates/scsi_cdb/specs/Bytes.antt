-- Fields as bytes of a command descriptor block.
use Rattle.std.specs.Prelude.{ℕ, ◌-◌, ◌+◌, ◌*◌, ◌/◌, ◌%◌, ◌^◌, Bool, List, [], ◌∷◌, ◌++◌, length, replicate, if◌then◌else◌}

-- a field of one bit, and one from bit high to bit low
abbrev pub at : ℕ → Bool → ℕ
at k b = if b then 2 ^ k else 0

abbrev pub from : ℕ → ℕ → ℕ → ℕ
from high low n = n % 2 ^ (high + 1 - low) * 2 ^ low

-- fields of two, three and four bytes, the highest first
abbrev pub two : ℕ → List ℕ
two n = n / 2 ^ 8 % 256 ∷ n % 256 ∷ []

abbrev pub three : ℕ → List ℕ
three n = n / 2 ^ 16 % 256 ∷ n / 2 ^ 8 % 256 ∷ n % 256 ∷ []

abbrev pub four : ℕ → List ℕ
four n = n / 2 ^ 24 % 256 ∷ n / 2 ^ 16 % 256 ∷ n / 2 ^ 8 % 256 ∷ n % 256 ∷ []

-- 16 bytes: these, then zeros
abbrev pub padded : List ℕ → List ℕ
padded bytes = bytes ++ replicate (16 - length bytes) 0
