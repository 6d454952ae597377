-- iSCSI names (RFC 7143, "iSCSI Names"; profile: of ASCII alone). Which case a letter has makes no difference.
use Rattle.std.specs.Prelude.{ℕ, Bool, ◌&&◌, ◌||◌, ◌==◌, if◌then◌else◌, List, length, take, drop, codes, map, nat_le, nat_lt}
use Rattle.std.specs.Char.{is_ascii_alphanumeric, is_ascii_digit, is_ascii_hexdigit, to_ascii_lowercase}
use Rattle.std.specs.List.{list_all}
use Rattle.std.specs.Str.{bytes_eq}
use lib.Pointwise.{pointwise}

-- a letter, a digit, "-", ".", ":" or "_"
abbrev pub is_name_byte : ℕ → Bool
is_name_byte b = is_ascii_alphanumeric b || (b == 45 || (b == 46 || (b == 58 || b == 95)))

-- 0 stands for any digit, and a small letter for itself in either case
abbrev pub fits : (place byte : ℕ) → Bool
fits place byte = if place == 48 then is_ascii_digit byte else place == to_ascii_lowercase byte

abbrev pub has_form : (text form : List ℕ) → Bool
has_form text form = pointwise fits form text

-- an iSCSI qualified name: the month in which its naming authority had its domain, and what that authority calls it
abbrev pub is_qualified : List ℕ → Bool
is_qualified name = nat_lt 12 (length name) && (has_form (take 12 name) (codes "iqn.0000-00.") && list_all is_name_byte (drop 12 name))

-- an identifier of 16 hexadecimal digits, or of NAA 32 too
abbrev pub identifies : (kind digits : List ℕ) → Bool
identifies kind digits =
    (length digits == 16 && (has_form kind (codes "eui.") || has_form kind (codes "naa.")) || length digits == 32 && has_form kind (codes "naa."))
    && list_all is_ascii_hexdigit digits

abbrev pub is_identifier : List ℕ → Bool
is_identifier name = nat_le 4 (length name) && identifies (take 4 name) (drop 4 name)

abbrev pub is_iscsi_name : List ℕ → Bool
is_iscsi_name name = nat_le (length name) 223 && (is_qualified name || is_identifier name)

-- a name in small letters alone, as names are compared and hashed (RFC 7143, "iSCSI Names")
abbrev pub folded : List ℕ → List ℕ
folded name = map to_ascii_lowercase name

abbrev pub is_same_name : List ℕ → List ℕ → Bool
is_same_name a b = bytes_eq (folded a) (folded b)
