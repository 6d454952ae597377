-- Where a nexus stands among entries that ascend by nexus.
use Rattle.std.specs.Prelude.{◌≡◌, ℕ, ◌<◌, ◌≤◌, List, length, slice_index_or, Result, MatchResult}
use Rattle.std.specs.declared.cmp.Ordering.TheVariants.{Less, Equal, Greater}
use Rattle.scsi_nexus.specs.declared.nexus.Nexus.{Nexus}
use Rattle.scsi_nexus.specs.Order.{nexus_cmp}

-- the nexus is above each of the first i entries
abbrev pub IsAbove : {X : Type 0} → Nexus → List (Nexus × X) → ℕ → Type 0
IsAbove {X} n x i = (j : ℕ) (d : Nexus × X) → j < i → nexus_cmp n (slice_index_or x j d).0 ≡ Greater

-- the nexus is below each entry from the i-th on
abbrev pub IsBelow : {X : Type 0} → Nexus → List (Nexus × X) → ℕ → Type 0
IsBelow {X} n x i = (j : ℕ) (d : Nexus × X) → i ≤ j → j < length x → nexus_cmp n (slice_index_or x j d).0 ≡ Less

-- the nexus is that of the i-th entry
abbrev pub IsAt : {X : Type 0} → Nexus → List (Nexus × X) → ℕ → Type 0
IsAt {X} n x i = (d : Nexus × X) → nexus_cmp n (slice_index_or x i d).0 ≡ Equal

-- Ok: where the nexus stands; Err: where it would
abbrev pub IsPlaceOf : {X : Type 0} → Nexus → List (Nexus × X) → Result ℕ ℕ → Type 0
IsPlaceOf n x r = MatchResult r (λ i. (i < length x) × IsAbove n x i × IsAt n x i) (λ i. (i ≤ length x) × IsAbove n x i × IsBelow n x i)
