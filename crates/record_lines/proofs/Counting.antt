-- Counts of kinds add up.
use Rattle.std.proofs.Common.{◌≡◌, ◌<◌, ℕ, Bool, true, false, zero, suc, refl, ap, arith, List, [], ◌∷◌, map, length, Some, None, inl, inr, true≢false, lt-ltb}
use Rattle.std.specs.List.{position_or_len, slice_index_or, slice_set}
use Rattle.std.proofs.lemmas.Bool.{cases_lt}
use Rattle.std.proofs.lemmas.List.Quantifiers.{position-Some}
use Rattle.std.proofs.lemmas.List.Sums.{fails_before_first}
use Rattle.record_lines.specs.Counts.{IsNewKind, Kind, counted, one_more, same_kind}
use Rattle.record_lines.specs.CountsSeen.{count_seen, kind_seen, place_of}
use Rattle.record_lines.specs.declared.counts.RecordCount.{RecordCount}

abbrev is_of : Kind → RecordCount → Bool
is_of kind c = same_kind kind (kind_seen c.kind)

found_at : (xs : List RecordCount) (kind : Kind) (i : ℕ) (d : RecordCount) (n : ℕ) → i < length xs → is_of kind (slice_index_or xs i d) ≡ true
    → ((k : ℕ) → k < i → is_of kind (slice_index_or xs k d) ≡ false) → n ≡ one_more (slice_index_or xs i d).count
    → map count_seen (slice_set xs i (record (slice_index_or xs i d) { count = n })) ≡ counted (map count_seen xs) kind
found_at [] kind i d n lt hit before more = absurd (omega arith)
found_at (x ∷ xs) kind zero d n lt hit before more = rw hit (rw more refl)
found_at (x ∷ xs) kind (suc i) d n lt hit before more =
    let miss : is_of kind x ≡ false = before 0 (omega arith) in
    rw miss (ap (λ cs. count_seen x ∷ cs) (found_at xs kind i d n (omega arith) hit (λ k below. before (suc k) (omega arith)) more))

lacks : (xs : List RecordCount) (kind : Kind) (d : RecordCount)
    → ((k : ℕ) → k < length xs → is_of kind (slice_index_or xs k d) ≡ false) → IsNewKind (map count_seen xs) kind
lacks [] kind d none = refl
lacks (x ∷ xs) kind d none =
    let miss : is_of kind x ≡ false = none 0 (omega arith) in
    rw miss (ap (λ cs. count_seen x ∷ cs) (lacks xs kind d (λ k below. none (suc k) (omega arith))))

some≢none : {X : Type 0} (x : X) → Some x ≡ None → ⊥
some≢none x e = true≢false (ap (λ o. Rattle.std.specs.Option.is_some o) e)

-- one is added at the place of a kind
pub added_at : (xs : List RecordCount) (kind : Kind) (i : ℕ) (d : RecordCount) (n : ℕ) → place_of xs kind ≡ Some i → n ≡ one_more (slice_index_or xs i d).count
    → map count_seen (slice_set xs i (record (slice_index_or xs i d) { count = n })) ≡ counted (map count_seen xs) kind
added_at xs kind i d n found more =
    let first = position-Some (is_of kind) xs i d found in
    found_at xs kind i d n first.0 first.1 first.2 more

-- a kind without a place is new
pub is_new : (xs : List RecordCount) (kind : Kind) (d : RecordCount) → place_of xs kind ≡ None → IsNewKind (map count_seen xs) kind
is_new xs kind d none = elim (cases_lt (position_or_len (is_of kind) xs) (length xs)) [
  | inl inside ↦ absurd (some≢none (position_or_len (is_of kind) xs) (rw (lt-ltb (position_or_len (is_of kind) xs) (length xs) inside) at none))
  | inr past ↦ lacks xs kind d (λ k lt. fails_before_first (is_of kind) xs k d (omega arith))
]
