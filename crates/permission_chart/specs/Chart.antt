-- The permission table as people read it: a line for each class of command, a column for each role under each type of
-- reservation, and in each the letter of the cell (SPC-4, "Persistent reservations interactions with commands", has the
-- same form).
use Rattle.std.specs.Prelude.{◌≡◌, ℕ, ◌-◌, Bool, true, false, List, [], ◌∷◌, ◌++◌, length, take, replicate, codes, if◌then◌else◌}
use Rattle.std.specs.List.{flat_map}
use Rattle.permit_tables.specs.Permission.{is_allowed}
use Rattle.permit_tables.specs.Text.{class_name, type_name, role_name}
use Rattle.permit_tables.specs.declared.res_type.ResType.{ResType}
use Rattle.permit_tables.specs.declared.res_type.ResType.TheVariants.{None, We, Ea, Wero, Earo, Wear, Eaar}
use Rattle.permit_tables.specs.declared.role.Role.{Role}
use Rattle.permit_tables.specs.declared.role.Role.TheVariants.{Holder, Registered, Other}
use Rattle.scsi_cdb.specs.declared.classes.Class.{Class}

-- the types, from the left
abbrev pub types : List ResType
types = None ∷ We ∷ Ea ∷ Wero ∷ Earo ∷ Wear ∷ Eaar ∷ []

-- whether a nexus can have a role under a type: where nothing is reserved nobody holds, and under all registrants each
-- registered nexus holds
abbrev pub occurs : ResType → Role → Bool
occurs None Holder = false
occurs Wear Registered = false
occurs Eaar Registered = false
occurs t r = true

-- the letter of a cell: allowed, or RESERVATION CONFLICT
abbrev pub letter : Class → ResType → Role → List ℕ
letter c t r = if is_allowed c t r then codes "A" else codes "C"

-- the first letter of a role's name
abbrev pub initial : Role → List ℕ
initial r = take 1 (role_name r)

-- a mark in its column; a blank where the role doesn't occur
abbrev pub in_column : ResType → Role → List ℕ → List ℕ
in_column t r mark = if occurs t r then mark else codes " "

-- the columns of a type
abbrev pub columns : ResType → (Role → List ℕ) → List ℕ
columns t mark =
    codes "  " ++ in_column t Holder (mark Holder) ++ codes " " ++ in_column t Registered (mark Registered)
    ++ codes " " ++ in_column t Other (mark Other)

-- a text, at the left or at the right of so many places
abbrev pub at_left : ℕ → List ℕ → List ℕ
at_left places text = text ++ replicate (places - length text) 32

abbrev pub at_right : ℕ → List ℕ → List ℕ
at_right places text = replicate (places - length text) 32 ++ text

-- a line: a text at its left, and what stands under each type
abbrev pub line : List ℕ → (ResType → List ℕ) → List ℕ
line left under = at_left 27 left ++ flat_map under types ++ 10 ∷ []

-- the line of the types, which also says what the letters of the cells mean
abbrev pub types_line : List ℕ
types_line = line (codes "A allowed, C conflict") (λ t. at_right 7 (type_name t))

-- the line of the roles, by their first letters
abbrev pub roles_line : List ℕ
roles_line =
    line (role_name Holder ++ codes " " ++ role_name Registered ++ codes " " ++ role_name Other) (λ t. columns t initial)

-- the line of a class
abbrev pub class_line : Class → List ℕ
class_line c = line (class_name c) (λ t. columns t (letter c t))

-- the chart of some classes
abbrev pub chart : List Class → List ℕ
chart classes = types_line ++ roles_line ++ flat_map class_line classes

-- in each line the same places: 27 for what stands at its left, and seven for each type
pub record LinesAreAligned : Type 0 where
  pub of_name : (c : Class) → length (at_left 27 (class_name c)) ≡ 27
  pub of_type : (t : ResType) → length (at_right 7 (type_name t)) ≡ 7
  pub of_roles : (t : ResType) → length (columns t initial) ≡ 7
  pub of_cells : (c : Class) (t : ResType) → length (columns t (letter c t)) ≡ 7
