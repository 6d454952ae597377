-- What lines have as it is (profile).
use Rattle.std.specs.Prelude.{ℕ, ◌==◌, ◌&&◌, not, nat_le, Bool}

-- a graphic character of ASCII that is neither quotation mark nor reverse solidus: a string of JSON has it as it is (RFC 8259, "Strings")
abbrev pub is_plain : ℕ → Bool
is_plain byte = nat_le 33 byte && nat_le byte 126 && not (byte == 34) && not (byte == 92)
