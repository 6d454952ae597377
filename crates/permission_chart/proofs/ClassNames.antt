-- No two classes have the same name.
use Rattle.std.proofs.Common.{◌≡◌, ℕ, ◌+◌, ◌*◌, List, [], ◌∷◌, Option, None, Some, eqb, map, refl, ap, ◌∙◌, sym}
use Rattle.std.specs.Char.{to_ascii_lowercase}
use Rattle.std.specs.List.{Contains, find}
use Rattle.permission_chart.specs.Classes.{every_class}
use Rattle.permission_chart.proofs.EachClass.{each_class, found, is_found}
use Rattle.permission_chart.specs.Names.{IsNameOf, IsClassNamed}
use Rattle.permit_tables.specs.Text.{class_name}
use Rattle.scsi_cdb.specs.declared.classes.Class.{Class}
use Rattle.scsi_cdb.specs.declared.profile.Profile.{Profile}
use Rattle.scsi_cdb.specs.declared.profile.Profile.TheVariants.{Hosts}

-- bytes as one number, the first the lowest
abbrev number : List ℕ → ℕ
number [] = 0
number (x ∷ xs) = x + 256 * number xs

abbrev lowered_number : List ℕ → ℕ
lowered_number name = number (map to_ascii_lowercase name)

-- the first class whose name has this number
abbrev with_number : ℕ → Option Class
with_number n = find (λ c. eqb n (lowered_number (class_name c))) (every_class Hosts)

with_number-class_name : (c : Class) → with_number (lowered_number (class_name c)) ≡ Some c
with_number-class_name c = found c (with_number (lowered_number (class_name c))) (each_class (λ x. is_found x (with_number (lowered_number (class_name x)))) refl c)

with_number-has : (name : List ℕ) (c : Class) → IsNameOf name c → with_number (lowered_number name) ≡ Some c
with_number-has name c has = ap (λ (bytes : List ℕ). with_number (number bytes)) has ∙ with_number-class_name c

-- a name is that of one class at most
pub one_class : (profile : Profile) (name : List ℕ) (a b : Option Class) → IsClassNamed profile name a → IsClassNamed profile name b → a ≡ b
one_class profile name None None p q = refl
one_class profile name None (Some b) p q = absurd (p b q)
one_class profile name (Some a) None p q = absurd (q a p)
one_class profile name (Some a) (Some b) p q = sym (with_number-has name a p.1) ∙ with_number-has name b q.1

-- the name of a class is that of this one
pub names_read_back : (profile : Profile) (c : Class) (found : Option Class) → Contains (every_class profile) c → IsClassNamed profile (class_name c) found
    → found ≡ Some c
names_read_back profile c None there none = absurd (none c (there, refl))
names_read_back profile c (Some other) there has = sym (with_number-has (class_name c) other has.1) ∙ with_number-class_name c
