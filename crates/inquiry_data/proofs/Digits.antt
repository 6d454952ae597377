-- A library's number is read from its digits, and a serial number says which unit it is of.
use Rattle.std.proofs.Common.{◌≡◌, ℕ, zero, suc, ◌+◌, ◌/◌, ◌%◌, ◌^◌, ◌<◌, length, Option, Some, None, Ok, sym, ap, ◌∙◌, arith, lit<}
use Rattle.std.specs.Int.{w32, to_be_bytes}
use Rattle.std.proofs.lemmas.Nat.{from_be_bytes-to_be_bytes_4}
use Rattle.hex.specs.Hex.{IsBytes, encode_with, decode_of, upper_digits}
use Rattle.hex.proofs.HexLemmas.{length-encode_with, decode_of-encode_upper}
use Rattle.inquiry_data.specs.declared.library_number.LibraryNumber.{LibraryNumber}
use Rattle.inquiry_data.specs.Identity.{library, library_digits, library_number_in, DigitsReadBack, SerialNumbersAreUnique}

-- each of the four bytes of a number is one
bytes_of_number : (n : ℕ) → IsBytes (to_be_bytes w32 n)
bytes_of_number n zero = omega arith
bytes_of_number n (suc zero) = omega arith
bytes_of_number n (suc (suc zero)) = omega arith
bytes_of_number n (suc (suc (suc zero))) = omega arith
bytes_of_number n (suc (suc (suc (suc i)))) = lit< tt

length-library_digits : (n : ℕ) → length (library_digits (library n)) ≡ 8
length-library_digits n = length-encode_with upper_digits (to_be_bytes w32 n)

decode_of-library_digits : (n : ℕ) → decode_of (library_digits (library n)) ≡ Ok (to_be_bytes w32 n)
decode_of-library_digits n = decode_of-encode_upper (to_be_bytes w32 n) (bytes_of_number n)

pub library_number_in-library_digits : DigitsReadBack
library_number_in-library_digits n fits =
    rw (decode_of-library_digits n)
    (rw (length-library_digits n) (ap (λ (k : ℕ). Some (library k)) (from_be_bytes-to_be_bytes_4 n fits)))

number_or_zero : Option LibraryNumber → ℕ
number_or_zero None = 0
number_or_zero (Some n) = n.number

-- libraries with the same digits are one
same_library : (a b : ℕ) → a < 2 ^ 32 → b < 2 ^ 32 → library_digits (library a) ≡ library_digits (library b) → a ≡ b
unfolding number_or_zero
same_library a b fits_a fits_b same =
    ap number_or_zero
    (sym (library_number_in-library_digits a fits_a) ∙ ap library_number_in same ∙ library_number_in-library_digits b fits_b)

pub serial_numbers_are_unique : SerialNumbersAreUnique
unfolding encode_with
serial_numbers_are_unique a b c d fits_a fits_b below_c below_d same =
    let digits : library_digits (library a) ≡ library_digits (library b) = cc in
    let tens : 48 + c / 10 % 10 ≡ 48 + d / 10 % 10 = cc in
    let ones : 48 + c % 10 ≡ 48 + d % 10 = cc in
    (same_library a b fits_a fits_b digits, omega arith)
