-- Binary values in text (RFC 7143, "Text Format").
use Rattle.std.specs.Prelude.{ℕ, ◌==◌, ◌||◌, nat_lt, List, ◌++◌, length, drop, slice_index, codes, Option, None, if◌then◌else◌}
use Rattle.std.specs.Result.{result_ok}
use Rattle.base64.specs.GeneralPurpose.{decode_of}
use Rattle.base64.specs.Engines.{standard}
use Rattle.hex.specs.Hex as hex

-- two digits a byte
unfoldable pub hexadecimal_bytes : (digits : List ℕ) → Option (List ℕ)
hexadecimal_bytes digits = result_ok (hex.decode_of digits)

-- (RFC 4648, "Base 64 Encoding")
unfoldable pub base64_bytes : (digits : List ℕ) → Option (List ℕ)
base64_bytes digits = result_ok (decode_of standard digits)

-- behind 0 there is x, 120, or X, 88; or b, 98, or B, 66
abbrev pub binary_by : (mark : ℕ) → (digits : List ℕ) → Option (List ℕ)
binary_by mark digits =
    if (mark == 120) || (mark == 88) then hexadecimal_bytes digits
    else if (mark == 98) || (mark == 66) then base64_bytes digits
    else None

abbrev pub binary_value : (value : List ℕ) → Option (List ℕ)
binary_value value =
    if nat_lt (length value) 2 then None
    else if slice_index value 0 == 48 then binary_by (slice_index value 1) (drop 2 value)
    else None

-- as it is written
abbrev pub hexadecimal : (bytes : List ℕ) → List ℕ
hexadecimal bytes = codes "0x" ++ hex.encode_lower bytes
