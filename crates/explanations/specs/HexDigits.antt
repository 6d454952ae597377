-- The two digits of a byte.
use Rattle.std.specs.Prelude.{ℕ, ◌/◌, ◌%◌, slice_index}
use Rattle.hex.specs.Hex.{lower_digits}

abbrev pub first_digit : ℕ → ℕ
first_digit byte = slice_index lower_digits (byte / 16)

abbrev pub second_digit : ℕ → ℕ
second_digit byte = slice_index lower_digits (byte % 16)
