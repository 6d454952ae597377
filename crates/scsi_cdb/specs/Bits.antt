-- Fields of a command descriptor block, by byte and bit.
use Rattle.std.specs.Prelude.{ℕ, ◌+◌, ◌-◌, ◌*◌, ◌/◌, ◌%◌, ◌^◌, ◌==◌, nat_lt, Bool, ℤ, pos, ◌-ℤ◌, List, slice_index, if◌then◌else◌}

-- bit k of byte i
abbrev pub bit : List ℕ → ℕ → ℕ → Bool
bit cdb i k = slice_index cdb i / 2 ^ k % 2 == 1

-- bits high to low of byte i
abbrev pub bits : List ℕ → ℕ → ℕ → ℕ → ℕ
bits cdb i high low = slice_index cdb i / 2 ^ low % 2 ^ (high + 1 - low)

-- byte i
abbrev pub byte : List ℕ → ℕ → ℕ
byte cdb i = slice_index cdb i

-- the numbers in the two, three and four bytes from byte i, the highest first
abbrev pub two_bytes : List ℕ → ℕ → ℕ
two_bytes cdb i = byte cdb i * 2 ^ 8 + byte cdb (i + 1)

abbrev pub three_bytes : List ℕ → ℕ → ℕ
three_bytes cdb i = byte cdb i * 2 ^ 16 + byte cdb (i + 1) * 2 ^ 8 + byte cdb (i + 2)

abbrev pub four_bytes : List ℕ → ℕ → ℕ
four_bytes cdb i = byte cdb i * 2 ^ 24 + byte cdb (i + 1) * 2 ^ 16 + byte cdb (i + 2) * 2 ^ 8 + byte cdb (i + 3)

-- the three bytes from byte i as two's complement: from 2 ^ 23 on the number is a negative one
abbrev pub signed_three_bytes : List ℕ → ℕ → ℤ
signed_three_bytes cdb i =
    if nat_lt (three_bytes cdb i) (2 ^ 23) then pos (three_bytes cdb i) else pos (three_bytes cdb i) -ℤ pos (2 ^ 24)
