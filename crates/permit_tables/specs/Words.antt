-- The permission table as words: the cells of a class as one word of 21 bits, three for each type.
use Rattle.std.specs.Prelude.{ℕ, ◌+◌, ◌*◌, ◌/◌, ◌%◌, ◌^◌, ◌==◌, Bool, if◌then◌else◌}
use Rattle.permit_tables.specs.declared.res_type.ResType.{ResType}
use Rattle.permit_tables.specs.declared.res_type.ResType.TheVariants.{None, We, Ea, Wero, Earo, Wear, Eaar}
use Rattle.permit_tables.specs.declared.role.Role.{Role}
use Rattle.permit_tables.specs.declared.role.Role.TheVariants.{Holder, Registered, Other}
use Rattle.scsi_cdb.specs.declared.classes.Class.{Class}
use Rattle.permit_tables.specs.Permission.{is_allowed}

abbrev pub type_number : ResType → ℕ
type_number None = 0
type_number We = 1
type_number Ea = 2
type_number Wero = 3
type_number Earo = 4
type_number Wear = 5
type_number Eaar = 6

abbrev pub role_number : Role → ℕ
role_number Holder = 0
role_number Registered = 1
role_number Other = 2

-- the place of a cell in its class's word
abbrev pub place_of : ResType → Role → ℕ
place_of t r = 3 * type_number t + role_number r

-- the bit of a word at a place
abbrev pub bit_of : ℕ → ℕ → Bool
bit_of word place = word / 2 ^ place % 2 == 1

-- the number whose one bit, at the cell's place, says whether the cell is allowed
abbrev pub cell_bit : Class → ResType → Role → ℕ
cell_bit c t r = if is_allowed c t r then 2 ^ place_of t r else 0

-- the three bits of a type
abbrev pub type_bits : Class → ResType → ℕ
type_bits c t = cell_bit c t Holder + cell_bit c t Registered + cell_bit c t Other

-- the word of a class
abbrev pub word_of : Class → ℕ
word_of c = type_bits c None + type_bits c We + type_bits c Ea + type_bits c Wero + type_bits c Earo + type_bits c Wear + type_bits c Eaar
