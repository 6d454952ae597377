-- Reservation types: their codes, and the two groups of types (SPC-4, "Persistent reservations type").
use Rattle.std.specs.Prelude.{ℕ, Bool, true, false, ◌==◌, if◌then◌else◌, Option}
use Rattle.std.specs.Prelude as std
use Rattle.permit_tables.specs.declared.res_type.ResType.{ResType}
use Rattle.permit_tables.specs.declared.res_type.ResType.TheVariants.{None, We, Ea, Wero, Earo, Wear, Eaar}

-- the scope and type byte: scope 0h, and the type; 0 for none
abbrev pub code_of : ResType → ℕ
code_of None = 0x00
code_of We = 0x01
code_of Ea = 0x03
code_of Wero = 0x05
code_of Earo = 0x06
code_of Wear = 0x07
code_of Eaar = 0x08

-- the type of such a byte; none where the scope isn't 0h or the type unknown
abbrev pub coded_type : ℕ → Option ResType
coded_type code =
    if code == 0x01 then std.Some We
    else if code == 0x03 then std.Some Ea
    else if code == 0x05 then std.Some Wero
    else if code == 0x06 then std.Some Earo
    else if code == 0x07 then std.Some Wear
    else if code == 0x08 then std.Some Eaar
    else std.None

abbrev pub is_all_registrants : ResType → Bool
is_all_registrants Wear = true
is_all_registrants Eaar = true
is_all_registrants t = false

abbrev pub is_registrants_only : ResType → Bool
is_registrants_only Wero = true
is_registrants_only Earo = true
is_registrants_only t = false
