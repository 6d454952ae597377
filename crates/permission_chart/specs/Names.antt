-- Which class of a profile's commands a name names, in either case of letters.
use Rattle.std.specs.Prelude.{◌≡◌, ℕ, List, map, Option, Some, MatchOption}
use Rattle.std.specs.Char.{to_ascii_lowercase}
use Rattle.std.specs.List.{Contains}
use Rattle.permission_chart.specs.Classes.{every_class}
use Rattle.permit_tables.specs.Text.{class_name}
use Rattle.scsi_cdb.specs.declared.classes.Class.{Class}
use Rattle.scsi_cdb.specs.declared.profile.Profile.{Profile}

-- the same letters, in either case
abbrev pub IsNameOf : List ℕ → Class → Type 0
IsNameOf name c = map to_ascii_lowercase name ≡ map to_ascii_lowercase (class_name c)

-- a class of a profile's commands that has this name
abbrev pub IsNamedIn : Profile → List ℕ → Class → Type 0
IsNamedIn profile name c = Contains (every_class profile) c × IsNameOf name c

-- the class of a profile's commands that has this name, or none where no class of them has it
abbrev pub IsClassNamed : Profile → List ℕ → Option Class → Type 0
IsClassNamed profile name found = MatchOption found ((c : Class) → ¬ IsNamedIn profile name c) (IsNamedIn profile name)

-- a name is that of one class at most
abbrev pub OneClassAtMost : Type 0
OneClassAtMost = (profile : Profile) (name : List ℕ) (a b : Option Class) → IsClassNamed profile name a → IsClassNamed profile name b → a ≡ b

-- the name of a class is that of this one
abbrev pub NamesReadBack : Type 0
NamesReadBack = (profile : Profile) (c : Class) (found : Option Class) → Contains (every_class profile) c → IsClassNamed profile (class_name c) found → found ≡ Some c
