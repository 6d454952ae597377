-- How many records say the same, in the words of their lines (profile).
use Rattle.std.specs.Prelude.{◌≡◌, ◌⊎◌, ℕ, ◌+◌, ◌-◌, ◌^◌, ◌&&◌, min, Bool, List, [], ◌∷◌, ◌++◌, Option, Some, None, if◌then◌else◌}
use Rattle.std.specs.Str.{bytes_eq}
use Rattle.scsi_sense.specs.Status.{status_code}
use Rattle.permit_tables.specs.Text.{type_name, role_name}
use Rattle.permit_tables.specs.declared.cell.Cell.{Cell}
use Rattle.audit_log.specs.Hexadecimal.{two_digits}
use Rattle.audit_log.specs.Lines.{act_text}
use Rattle.audit_log.specs.declared.record.Record.{Record}

-- what was asked, the type and the role of the cell, and the status; without a cell the second and the third are empty
pub record Kind : Type 0 where
  pub class : List ℕ
  pub res_type : List ℕ
  pub role : List ℕ
  pub status : List ℕ

abbrev pub type_word : Option Cell → List ℕ
type_word None = []
type_word (Some cell) = type_name cell.res_type

abbrev pub role_word : Option Cell → List ℕ
role_word None = []
role_word (Some cell) = role_name cell.role

abbrev pub kind_of : Record → Kind
kind_of r = record { class = act_text r.act; res_type = type_word r.cell; role = role_word r.cell; status = two_digits (status_code r.status) }

abbrev pub same_kind : Kind → Kind → Bool
same_kind a b = bytes_eq a.class b.class && (bytes_eq a.res_type b.res_type && (bytes_eq a.role b.role && bytes_eq a.status b.status))

-- how often each kind was counted
pub record Count : Type 0 where
  pub kind : Kind
  pub count : ℕ

-- counts stay at their largest
abbrev pub one_more : ℕ → ℕ
one_more n = min (n + 1) (2 ^ 64 - 1)

-- one more of a kind: at its own count, or behind the others as the first
abbrev pub counted : List Count → Kind → List Count
counted [] kind = record { kind = kind; count = 1 } ∷ []
counted (c ∷ cs) kind = if same_kind kind c.kind then record c { count = one_more c.count } ∷ cs else c ∷ counted cs kind

-- how often a kind was counted
abbrev pub amount : List Count → Kind → ℕ
amount [] kind = 0
amount (c ∷ cs) kind = if same_kind kind c.kind then c.count else amount cs kind

-- no count is of this kind
abbrev pub IsNewKind : List Count → Kind → Type 0
IsNewKind cs kind = counted cs kind ≡ cs ++ record { kind = kind; count = 1 } ∷ []

-- all counts, and how many records couldn't be counted
pub record Counts : Type 0 where
  pub counts : List Count
  pub uncounted : ℕ

-- a record of a kind is counted, or without memory is one more of those that couldn't be
abbrev pub IsCounted : Counts → Kind → Counts → Type 0
IsCounted before kind after =
    (after ≡ record before { counts = counted before.counts kind }) ⊎ (after ≡ record before { uncounted = one_more before.uncounted })

-- LAWS: a count says how many of its kind were counted, and no other one changes
abbrev pub CountsAddUp : Type 0
CountsAddUp = (cs : List Count) (kind other : Kind) → amount (counted cs kind) other ≡ (if same_kind other kind then one_more (amount cs other) else amount cs other)
