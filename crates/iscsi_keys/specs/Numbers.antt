-- Numbers in text: decimal, or hexadecimal behind 0x (RFC 7143, "Text Format"). Those of a key have 32 bits at most.
use Rattle.std.specs.Prelude.{ℕ, ◌+◌, ◌-◌, ◌*◌, ◌^◌, ◌==◌, ◌&&◌, ◌||◌, nat_lt, nat_le, List, length, drop, slice_index, fold, Option, Some, None, if◌then◌else◌}

-- the value of a digit by its code: 30h to 39h, and 61h or 41h onwards for the letters
abbrev pub digit_in : ℕ → Option ℕ
digit_in c =
    if nat_le 48 c && nat_le c 57 then Some (c - 48)
    else if nat_le 97 c && nat_le c 102 then Some (c - 97 + 10)
    else if nat_le 65 c && nat_le c 70 then Some (c - 65 + 10)
    else None

abbrev pub appended : (base number : ℕ) → Option ℕ → Option ℕ
appended base number None = None
appended base number (Some d) =
    if nat_lt d base && nat_lt (number * base + d) (2 ^ 32) then Some (number * base + d) else None

-- a number with one more digit behind it, as long as all are digits of the base and it has 32 bits
abbrev pub with_digit : (base : ℕ) → Option ℕ → ℕ → Option ℕ
with_digit base None c = None
with_digit base (Some number) c = appended base number (digit_in c)

abbrev pub digits_in : (base : ℕ) → List ℕ → Option ℕ
digits_in base digits = if length digits == 0 then None else fold (with_digit base) (Some 0) digits

-- 0 is 48, x is 120 and X is 88
abbrev pub number_in : List ℕ → Option ℕ
number_in value =
    if nat_le 2 (length value) && (slice_index value 0 == 48) && ((slice_index value 1 == 120) || (slice_index value 1 == 88))
    then digits_in 16 (drop 2 value)
    else digits_in 10 value
