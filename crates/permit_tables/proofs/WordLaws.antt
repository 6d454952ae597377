-- The words of the permission table, bit by bit.
use Rattle.std.proofs.Common.{◌≡◌, ℕ, cond, refl, ◌+◌, ◌^◌}
use Rattle.permit_tables.specs.declared.res_type.ResType.{ResType}
use Rattle.permit_tables.specs.declared.res_type.ResType.TheVariants.{None, We, Ea, Wero, Earo, Wear, Eaar}
use Rattle.permit_tables.specs.declared.role.Role.{Role}
use Rattle.permit_tables.specs.declared.role.Role.TheVariants.{Holder, Registered, Other}
use Rattle.scsi_cdb.specs.declared.classes.Class.{Class}
use Rattle.permit_tables.specs.Permission.{is_allowed, row_allows, Group, group_of}
use Rattle.permit_tables.specs.Permission.{Harmless, Reading, Changing, Enrolling, Registrants, Holders}
use Rattle.permit_tables.specs.Words.{word_of, place_of, bit_of}

-- a fact of each role is a fact of all
each_role : (P : Role → Type 0) → P Holder → P Registered → P Other → (r : Role) → P r
each_role P h g o Holder = h
each_role P h g o Registered = g
each_role P h g o Other = o

abbrev cell_bit_in : Group → ResType → Role → ℕ
cell_bit_in g t r = cond (row_allows g t r) (2 ^ place_of t r) 0

abbrev type_bits_in : Group → ResType → ℕ
type_bits_in g t = cell_bit_in g t Holder + cell_bit_in g t Registered + cell_bit_in g t Other

-- the word of the classes of a row
abbrev word_in : Group → ℕ
word_in g = type_bits_in g None + type_bits_in g We + type_bits_in g Ea + type_bits_in g Wero + type_bits_in g Earo + type_bits_in g Wear + type_bits_in g Eaar

-- a row's cell stands at its place in the row's word
abbrev IsKept : Group → ResType → Role → Type 0
IsKept g t r = bit_of (word_in g) (place_of t r) ≡ row_allows g t r

kept : (g : Group) (t : ResType) (r : Role) → IsKept g t r
kept Harmless None r = each_role (IsKept Harmless None) refl refl refl r
kept Harmless We r = each_role (IsKept Harmless We) refl refl refl r
kept Harmless Ea r = each_role (IsKept Harmless Ea) refl refl refl r
kept Harmless Wero r = each_role (IsKept Harmless Wero) refl refl refl r
kept Harmless Earo r = each_role (IsKept Harmless Earo) refl refl refl r
kept Harmless Wear r = each_role (IsKept Harmless Wear) refl refl refl r
kept Harmless Eaar r = each_role (IsKept Harmless Eaar) refl refl refl r
kept Reading None r = each_role (IsKept Reading None) refl refl refl r
kept Reading We r = each_role (IsKept Reading We) refl refl refl r
kept Reading Ea r = each_role (IsKept Reading Ea) refl refl refl r
kept Reading Wero r = each_role (IsKept Reading Wero) refl refl refl r
kept Reading Earo r = each_role (IsKept Reading Earo) refl refl refl r
kept Reading Wear r = each_role (IsKept Reading Wear) refl refl refl r
kept Reading Eaar r = each_role (IsKept Reading Eaar) refl refl refl r
kept Changing None r = each_role (IsKept Changing None) refl refl refl r
kept Changing We r = each_role (IsKept Changing We) refl refl refl r
kept Changing Ea r = each_role (IsKept Changing Ea) refl refl refl r
kept Changing Wero r = each_role (IsKept Changing Wero) refl refl refl r
kept Changing Earo r = each_role (IsKept Changing Earo) refl refl refl r
kept Changing Wear r = each_role (IsKept Changing Wear) refl refl refl r
kept Changing Eaar r = each_role (IsKept Changing Eaar) refl refl refl r
kept Enrolling None r = each_role (IsKept Enrolling None) refl refl refl r
kept Enrolling We r = each_role (IsKept Enrolling We) refl refl refl r
kept Enrolling Ea r = each_role (IsKept Enrolling Ea) refl refl refl r
kept Enrolling Wero r = each_role (IsKept Enrolling Wero) refl refl refl r
kept Enrolling Earo r = each_role (IsKept Enrolling Earo) refl refl refl r
kept Enrolling Wear r = each_role (IsKept Enrolling Wear) refl refl refl r
kept Enrolling Eaar r = each_role (IsKept Enrolling Eaar) refl refl refl r
kept Registrants None r = each_role (IsKept Registrants None) refl refl refl r
kept Registrants We r = each_role (IsKept Registrants We) refl refl refl r
kept Registrants Ea r = each_role (IsKept Registrants Ea) refl refl refl r
kept Registrants Wero r = each_role (IsKept Registrants Wero) refl refl refl r
kept Registrants Earo r = each_role (IsKept Registrants Earo) refl refl refl r
kept Registrants Wear r = each_role (IsKept Registrants Wear) refl refl refl r
kept Registrants Eaar r = each_role (IsKept Registrants Eaar) refl refl refl r
kept Holders None r = each_role (IsKept Holders None) refl refl refl r
kept Holders We r = each_role (IsKept Holders We) refl refl refl r
kept Holders Ea r = each_role (IsKept Holders Ea) refl refl refl r
kept Holders Wero r = each_role (IsKept Holders Wero) refl refl refl r
kept Holders Earo r = each_role (IsKept Holders Earo) refl refl refl r
kept Holders Wear r = each_role (IsKept Holders Wear) refl refl refl r
kept Holders Eaar r = each_role (IsKept Holders Eaar) refl refl refl r

-- a class's cell stands at its place in the class's word
pub bit_is_allowed : (c : Class) (t : ResType) (r : Role) → bit_of (word_of c) (place_of t r) ≡ is_allowed c t r
bit_is_allowed c t r = kept (group_of c) t r
