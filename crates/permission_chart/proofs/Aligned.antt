-- The lines of the chart have their columns in the same places.
use Rattle.std.proofs.Common.{◌≡◌, ◌==◌, ℕ, List, cond, codes, length, refl}
use Rattle.std.proofs.lemmas.Bool.{eqb-true}
use Rattle.permission_chart.proofs.EachClass.{each_class}
use Rattle.permission_chart.specs.Chart.{LinesAreAligned, at_left, at_right, columns, initial}
use Rattle.permit_tables.specs.Permission.{Group, group_of, row_allows}
use Rattle.permit_tables.specs.Permission.{Harmless, Reading, Changing, Enrolling, Registrants, Holders}
use Rattle.permit_tables.specs.Text.{class_name, type_name}
use Rattle.permit_tables.specs.declared.res_type.ResType.{ResType}
use Rattle.permit_tables.specs.declared.res_type.ResType.TheVariants.{None, We, Ea, Wero, Earo, Wear, Eaar}
use Rattle.permit_tables.specs.declared.role.Role.{Role}
use Rattle.scsi_cdb.specs.declared.classes.Class.{Class}

of_name : (c : Class) → length (at_left 27 (class_name c)) ≡ 27
of_name c = eqb-true _ _ (each_class (λ x. length (at_left 27 (class_name x)) == 27) refl c)

-- a fact of each type is a fact of all
each_type : (P : ResType → Type 0) → P None → P We → P Ea → P Wero → P Earo → P Wear → P Eaar → (t : ResType) → P t
each_type P none we ea wero earo wear eaar None = none
each_type P none we ea wero earo wear eaar We = we
each_type P none we ea wero earo wear eaar Ea = ea
each_type P none we ea wero earo wear eaar Wero = wero
each_type P none we ea wero earo wear eaar Earo = earo
each_type P none we ea wero earo wear eaar Wear = wear
each_type P none we ea wero earo wear eaar Eaar = eaar

-- the letter of a cell, by the row of its class
abbrev letter_in : Group → ResType → Role → List ℕ
letter_in g t r = cond (row_allows g t r) (codes "A") (codes "C")

abbrev IsSeven : Group → ResType → Type 0
IsSeven g t = length (columns t (letter_in g t)) ≡ 7

seven : (g : Group) (t : ResType) → IsSeven g t
seven Harmless t = each_type (IsSeven Harmless) refl refl refl refl refl refl refl t
seven Reading t = each_type (IsSeven Reading) refl refl refl refl refl refl refl t
seven Changing t = each_type (IsSeven Changing) refl refl refl refl refl refl refl t
seven Enrolling t = each_type (IsSeven Enrolling) refl refl refl refl refl refl refl t
seven Registrants t = each_type (IsSeven Registrants) refl refl refl refl refl refl refl t
seven Holders t = each_type (IsSeven Holders) refl refl refl refl refl refl refl t

pub lines_are_aligned : LinesAreAligned
lines_are_aligned = record {
  of_name = of_name;
  of_type = each_type (λ t. length (at_right 7 (type_name t)) ≡ 7) refl refl refl refl refl refl refl;
  of_roles = each_type (λ t. length (columns t initial) ≡ 7) refl refl refl refl refl refl refl;
  of_cells = λ c t. seven (group_of c) t;
}
