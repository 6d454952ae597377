-- Keys in order: what makes them proper, and what a REGISTER of several nexuses does to them in place.
use Rattle.std.specs.Prelude.{◌≡◌, ℕ, Bool, true, not, ◌==◌, if◌then◌else◌, List, T, filter}
use Rattle.std.specs.List.{list_all, fold}
use Rattle.std.specs.FinMap.{is_sorted, put}
use Rattle.scsi_nexus.specs.declared.nexus.Nexus.{Nexus}
use Rattle.scsi_nexus.specs.Order.{nexus_cmp, same_nexus}

-- whether each key is a key
abbrev pub all_keyed : List (Nexus × ℕ) → Bool
all_keyed x = list_all (λ e. not (e.1 == 0)) x

-- ascending, with no key that is 0
pub record IsProper (x : List (Nexus × ℕ)) : Type 0 where
  pub sorted : T (is_sorted nexus_cmp x)
  pub keyed : all_keyed x ≡ true

-- these nexuses with key k, one after another
abbrev pub put_all : ℕ → List (Nexus × ℕ) → List Nexus → List (Nexus × ℕ)
put_all k x targets = fold (λ y n. put nexus_cmp n k y) x targets

-- without these nexuses, one after another
abbrev pub remove_all : List (Nexus × ℕ) → List Nexus → List (Nexus × ℕ)
remove_all x targets = fold (λ y n. filter (λ e. not (same_nexus e.0 n)) y) x targets

-- these nexuses with key k, where 0 is none
abbrev pub register_all : ℕ → List (Nexus × ℕ) → List Nexus → List (Nexus × ℕ)
register_all k x targets = if k == 0 then remove_all x targets else put_all k x targets
