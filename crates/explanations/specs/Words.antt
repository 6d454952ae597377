-- Words, numbers and bytes as people read them (profile).
use Rattle.std.specs.Prelude.{ℕ, zero, suc, ◌==◌, ◌&&◌, nat_lt, nat_le, List, [], ◌∷◌, ◌++◌, length, take, map, slice_index, codes, if◌then◌else◌}
use Rattle.std.specs.Fmt.{decimal}
use Rattle.hex.specs.Hex.{encode_lower}

-- a byte that is a code, as `1ah`
abbrev pub code_text : ℕ → List ℕ
code_text code = encode_lower (code ∷ []) ++ codes "h"

-- words and a byte that is a code
unfoldable pub coded_text : (words : List ℕ) → ℕ → List ℕ
coded_text words code = words ++ code_text code

-- words and a number
unfoldable pub number_text : (words : List ℕ) → ℕ → List ℕ
number_text words n = words ++ decimal n

-- how many there are of something
unfoldable pub count_text : ℕ → (what : List ℕ) → List ℕ
count_text n what = codes ", " ++ decimal n ++ what

abbrev pub byte_count : ℕ → List ℕ
byte_count n = count_text n (if n == 1 then codes " byte" else codes " bytes")

-- said of data that have fewer bytes than the whole
unfoldable pub cut : (whole : ℕ) → List ℕ → List ℕ
cut whole bytes = if nat_lt (length bytes) whole then codes ", cut" else []

-- the first n of some bytes, without the spaces at their end
abbrev pub trimmed : List ℕ → ℕ → List ℕ
trimmed bytes zero = []
trimmed bytes (suc n) = if slice_index bytes n == 32 then trimmed bytes n else take (suc n) bytes

-- a byte as it is printed: a dot for what ASCII has no sign for
abbrev pub printable : ℕ → ℕ
printable byte = if nat_le 32 byte && nat_lt byte 127 then byte else 46

-- text in quotes, without the spaces at its end
unfoldable pub quoted : List ℕ → List ℕ
quoted bytes = codes "\"" ++ map printable (trimmed bytes (length bytes)) ++ codes "\""
