-- Fields of a basic header segment h by their places, and rows of them as bytes.
use Rattle.std.specs.Prelude.{ℕ, ◌+◌, ◌-◌, ◌/◌, ◌%◌, ◌^◌, ◌==◌, Bool, List, ◌++◌, replicate, slice_index, if◌then◌else◌}
use Rattle.byteorder.specs.Endian.{big_bytes, big_from}
use Rattle.iscsi_pdu.specs.declared.serial_number.SerialNumber.{SerialNumber}

-- byte i, bit k of it, and its bits high to low
abbrev pub byte : List ℕ → ℕ → ℕ
byte h i = slice_index h i

abbrev pub bit : List ℕ → ℕ → ℕ → Bool
bit h i k = slice_index h i / 2 ^ k % 2 == 1

abbrev pub bits : List ℕ → ℕ → ℕ → ℕ → ℕ
bits h i high low = slice_index h i / 2 ^ low % 2 ^ (high + 1 - low)

-- the numbers in two, three, four, six and eight bytes from byte i, the highest first
abbrev pub two : List ℕ → ℕ → ℕ
two h i = big_from i 2 h

abbrev pub three : List ℕ → ℕ → ℕ
three h i = big_from i 3 h

abbrev pub four : List ℕ → ℕ → ℕ
four h i = big_from i 4 h

abbrev pub six : List ℕ → ℕ → ℕ
six h i = big_from i 6 h

abbrev pub eight : List ℕ → ℕ → ℕ
eight h i = big_from i 8 h

abbrev pub serial : List ℕ → ℕ → SerialNumber
serial h i = record { number = four h i }

-- a field of one bit
abbrev pub at : ℕ → Bool → ℕ
at k b = if b then 2 ^ k else 0

abbrev pub zeros : ℕ → List ℕ
zeros n = replicate n 0

-- a row of two fields of two bytes
abbrev pub halves : ℕ → ℕ → List ℕ
halves a b = big_bytes 2 a ++ big_bytes 2 b

-- ISID, six bytes, and TSIH, two
abbrev pub session_identifier : (isid tsih : ℕ) → List ℕ
session_identifier isid tsih = big_bytes 6 isid ++ big_bytes 2 tsih
