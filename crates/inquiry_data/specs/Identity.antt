-- The number that all units of a library share, and the serial numbers of its units (profile).
use Rattle.std.specs.Prelude.{◌≡◌, ℕ, ◌+◌, ◌/◌, ◌%◌, ◌^◌, ◌<◌, ◌==◌, List, [], ◌∷◌, ◌++◌, length, Option, Some, None, Result, Ok, Err, if◌then◌else◌}
use Rattle.std.specs.Int.{w32, to_be_bytes, from_be_bytes}
use Rattle.hex.specs.Hex.{encode_upper, decode_of}
use Rattle.hex.specs.declared.error.FromHexError.{FromHexError}
use Rattle.inquiry_data.specs.declared.library_number.LibraryNumber.{LibraryNumber}
use Rattle.inquiry_data.specs.declared.unit_identity.UnitIdentity.{UnitIdentity}

abbrev pub library : (number : ℕ) → LibraryNumber
library number = record { number = number }

abbrev pub unit : LibraryNumber → (lun : ℕ) → UnitIdentity
unit library_number lun = record { library_number = library_number; lun = lun }

-- a library's number as text: 8 hexadecimal digits of upper case, the highest first
abbrev pub library_digits : LibraryNumber → List ℕ
library_digits n = encode_upper (to_be_bytes w32 n.number)

abbrev pub number_of : Result (List ℕ) FromHexError → Option LibraryNumber
number_of (Ok bytes) = Some (library (from_be_bytes w32 bytes))
number_of (Err e) = None

-- the number in a text: 8 hexadecimal digits of either case, and no other text
abbrev pub library_number_in : List ℕ → Option LibraryNumber
library_number_in text = if length text == 8 then number_of (decode_of text) else None

-- a number's last two decimal digits; 48 is the code of the digit 0
abbrev pub two_decimal_digits : ℕ → List ℕ
two_decimal_digits n = (48 + n / 10 % 10) ∷ (48 + n % 10) ∷ []

-- the serial number of a unit: the digits of the library, then the logical unit number in two decimal digits
abbrev pub serial_number : UnitIdentity → List ℕ
serial_number identity = library_digits identity.library_number ++ two_decimal_digits identity.lun

-- the changer of the library that a unit belongs to: logical unit 0
abbrev pub changer_of : UnitIdentity → UnitIdentity
changer_of identity = unit identity.library_number 0

-- a library's number is read from its digits
abbrev pub DigitsReadBack : Type 0
DigitsReadBack = (number : ℕ) → number < 2 ^ 32 → library_number_in (library_digits (library number)) ≡ Some (library number)

-- units with one serial number are one unit
abbrev pub SerialNumbersAreUnique : Type 0
SerialNumbersAreUnique = (a b c d : ℕ) → a < 2 ^ 32 → b < 2 ^ 32 → c < 100 → d < 100
    → serial_number (unit (library a) c) ≡ serial_number (unit (library b) d) → (a ≡ b) × (c ≡ d)
