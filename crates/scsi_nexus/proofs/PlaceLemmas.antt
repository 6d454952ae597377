-- What ascending entries say of a nexus compared with one of them.
use Rattle.std.proofs.Common.{◌≡◌, ℕ, zero, suc, ◌+◌, ◌<◌, ◌≤◌, Bool, true, false, T, ◌&&◌, cond, List, [], ◌∷◌, length, get_or, Ok, Some, None, inl, inr, refl, sym, ap, ◌∙◌, arith}
use Rattle.std.proofs.lemmas.Bool.{cases_lt}
use Rattle.std.proofs.lemmas.List.{get_or_default}
use Rattle.std.specs.declared.cmp.Ordering.{Ordering}
use Rattle.std.specs.declared.cmp.Ordering.TheVariants.{Less, Equal, Greater}
use Rattle.std.specs.Ordering.{is_lt, is_eq, ordering_reverse}
use Rattle.std.specs.Prelude.{insert}
use Rattle.std.proofs.Math.ListN.{set}
use Rattle.std.specs.FinMap.{is_sorted, find, put}
use Rattle.std.specs.FinMap.Entries.{below_all, by_order}
use Rattle.scsi_nexus.specs.declared.nexus.Nexus.{Nexus}
use Rattle.scsi_nexus.specs.Order.{nexus_cmp}
use Rattle.scsi_nexus.specs.Place.{IsAbove, IsBelow, IsAt, IsPlaceOf}
use Rattle.scsi_nexus.proofs.NexusLaws.{nexus_total}

pub T-left : (a b : Bool) → T (a && b) → T a
T-left true b h = tt
T-left false b h = absurd h

pub T-right : (a b : Bool) → T (a && b) → T b
T-right true b h = h
T-right false b h = absurd h

is_less : (o : Ordering) → T (is_lt o) → o ≡ Less
is_less Less h = refl
is_less Equal h = absurd h
is_less Greater h = absurd h

below_at : {X : Type 0} (n : Nexus) (x : List (Nexus × X)) (j : ℕ) (d : Nexus × X) → T (below_all nexus_cmp n x) → j < length x → nexus_cmp n (get_or x j d).0 ≡ Less
below_at n [] j d h lt = absurd (omega arith)
below_at n (e ∷ x) zero d h lt = is_less (nexus_cmp n e.0) (T-left _ _ h)
below_at n (e ∷ x) (suc j) d h lt = below_at n x j d (T-right _ _ h) (omega arith)

-- an earlier entry is below a later one
pub earlier_below : {X : Type 0} (x : List (Nexus × X)) (i j : ℕ) (d : Nexus × X) → T (is_sorted nexus_cmp x) → i < j → j < length x → nexus_cmp (get_or x i d).0 (get_or x j d).0 ≡ Less
earlier_below [] i j d h lt within = absurd (omega arith)
earlier_below (e ∷ x) i zero d h lt within = absurd (omega arith)
earlier_below (e ∷ x) zero (suc j) d h lt within = below_at e.0 x j d (T-left _ _ h) (omega arith)
earlier_below (e ∷ x) (suc i) (suc j) d h lt within = earlier_below x i j d (T-right _ _ h) (omega arith) (omega arith)

turned : (a b : Nexus) (o : Ordering) → nexus_cmp a b ≡ o → nexus_cmp b a ≡ ordering_reverse o
turned a b o h = nexus_total.antisymm b a ∙ ap ordering_reverse h

-- that of the i-th entry, whatever is read past the end
pub at_place : {X : Type 0} (n : Nexus) (x : List (Nexus × X)) (i : ℕ) (e : Nexus × X) → i < length x → nexus_cmp n (get_or x i e).0 ≡ Equal → IsAt n x i
at_place {X} n x i e lt q d = ap (λ (f : Nexus × X). nexus_cmp n f.0) (get_or_default x i d e lt) ∙ q

-- at the i-th entry, and so above all before it
pub above_before : {X : Type 0} (n : Nexus) (x : List (Nexus × X)) (i : ℕ) → T (is_sorted nexus_cmp x) → i < length x → IsAt n x i → IsAbove n x i
above_before n x i h lt at j d before =
    nexus_total.congr n (get_or x i d).0 (get_or x j d).0 (at d) ∙ turned (get_or x j d).0 (get_or x i d).0 Less (earlier_below x j i d h before lt)

-- what one entry compares to, whatever is read past the end
compared : {X : Type 0} (n : Nexus) (x : List (Nexus × X)) (i : ℕ) (d e : Nexus × X) (o : Ordering) → i < length x → nexus_cmp (get_or x i e).0 n ≡ o → nexus_cmp (get_or x i d).0 n ≡ o
compared {X} n x i d e o lt h = ap (λ (f : Nexus × X). nexus_cmp f.0 n) (get_or_default x i d e lt) ∙ h

up_to : {X : Type 0} (n : Nexus) (x : List (Nexus × X)) (i j : ℕ) (d : Nexus × X) → T (is_sorted nexus_cmp x) → i < length x → j < i + 1 → nexus_cmp (get_or x i d).0 n ≡ Less → nexus_cmp (get_or x j d).0 n ≡ Less
up_to n x i j d h lt before less = elim (cases_lt j i) [
  | inl earlier ↦ nexus_total.trans (get_or x j d).0 (get_or x i d).0 n (earlier_below x j i d h earlier lt) less
  | inr at ↦
      let same : j ≡ i = omega arith in
      rw same less
]

-- above the i-th entry, and so above all before it
pub above_more : {X : Type 0} (n : Nexus) (x : List (Nexus × X)) (i : ℕ) (e : Nexus × X) → T (is_sorted nexus_cmp x) → i < length x → nexus_cmp (get_or x i e).0 n ≡ Less → IsAbove n x (i + 1)
above_more n x i e h lt less j d before = turned (get_or x j d).0 n Less (up_to n x i j d h lt before (compared n x i d e Less lt less))

from_on : {X : Type 0} (n : Nexus) (x : List (Nexus × X)) (i j : ℕ) (d : Nexus × X) → T (is_sorted nexus_cmp x) → i ≤ j → j < length x → nexus_cmp n (get_or x i d).0 ≡ Less → nexus_cmp n (get_or x j d).0 ≡ Less
from_on n x i j d h from within less = elim (cases_lt i j) [
  | inl later ↦ nexus_total.trans n (get_or x i d).0 (get_or x j d).0 less (earlier_below x i j d h later within)
  | inr at ↦
      let same : j ≡ i = omega arith in
      rw same less
]

-- below the i-th entry, and so below all behind it
pub below_more : {X : Type 0} (n : Nexus) (x : List (Nexus × X)) (i : ℕ) (e : Nexus × X) → T (is_sorted nexus_cmp x) → i < length x → nexus_cmp (get_or x i e).0 n ≡ Greater → IsBelow n x i
below_more n x i e h lt greater j d from within = from_on n x i j d h from within (turned (get_or x i d).0 n Greater (compared n x i d e Greater lt greater))

-- at the i-th entry
pub found_at : {X : Type 0} (n : Nexus) (x : List (Nexus × X)) (i : ℕ) (e : Nexus × X) → T (is_sorted nexus_cmp x) → i < length x → nexus_cmp (get_or x i e).0 n ≡ Equal → IsPlaceOf n x (Ok i)
found_at n x i e h lt equal =
    let here = at_place n x i e lt (turned (get_or x i e).0 n Equal equal) in
    (lt, above_before n x i h lt here, here)

rest_above : {X : Type 0} (n : Nexus) (e : Nexus × X) (x : List (Nexus × X)) (i : ℕ) → IsAbove n (e ∷ x) (suc i) → IsAbove n x i
rest_above n e x i above j d lt = above (suc j) d (omega arith)

rest_below : {X : Type 0} (n : Nexus) (e : Nexus × X) (x : List (Nexus × X)) (i : ℕ) → IsBelow n (e ∷ x) (suc i) → IsBelow n x i
rest_below n e x i below j d le lt = below (suc j) d (omega arith) (omega arith)

-- what stands at the place of a nexus is what is found
pub find-place : {X : Type 0} (n : Nexus) (x : List (Nexus × X)) (i : ℕ) (d : Nexus × X) → i < length x → IsAbove n x i → IsAt n x i → find nexus_cmp n x ≡ Some (get_or x i d).1
find-place n [] i d lt above at = absurd (omega arith)
find-place n (e ∷ x) zero d lt above at = ap (λ o. cond (is_eq o) (Some e.1) (find nexus_cmp n x)) (at d)
find-place n (e ∷ x) (suc i) d lt above at =
    ap (λ o. cond (is_eq o) (Some e.1) (find nexus_cmp n x)) (above 0 d (omega arith)) ∙ find-place n x i d (omega arith) (rest_above n e x i above) at

-- a nexus that stands nowhere isn't found
pub find-no_place : {X : Type 0} (n : Nexus) (x : List (Nexus × X)) (i : ℕ) → i ≤ length x → IsAbove n x i → IsBelow n x i → find nexus_cmp n x ≡ None
find-no_place n [] i le above below = refl
find-no_place n (e ∷ x) zero le above below =
    ap (λ o. cond (is_eq o) (Some e.1) (find nexus_cmp n x)) (below 0 e (omega arith) (omega arith)) ∙ find-no_place n x zero (omega arith) (λ j d lt. absurd (omega arith)) (λ j d l lt. below (suc j) d (omega arith) (omega arith))
find-no_place n (e ∷ x) (suc i) le above below =
    ap (λ o. cond (is_eq o) (Some e.1) (find nexus_cmp n x)) (above 0 e (omega arith)) ∙ find-no_place n x i (omega arith) (rest_above n e x i above) (rest_below n e x i below)

-- a new value at the place of a nexus is `put`
pub set-place : {X : Type 0} (n : Nexus) (v : X) (x : List (Nexus × X)) (i : ℕ) (d : Nexus × X) → i < length x → IsAbove n x i → IsAt n x i → set x i ((get_or x i d).0, v) ≡ put nexus_cmp n v x
set-place n v [] i d lt above at = absurd (omega arith)
set-place n v (e ∷ x) zero d lt above at = sym (ap (λ o. by_order o ((n, v) ∷ e ∷ x) ((e.0, v) ∷ x) (e ∷ put nexus_cmp n v x)) (at d))
set-place n v (e ∷ x) (suc i) d lt above at =
    ap (λ y. e ∷ y) (set-place n v x i d (omega arith) (rest_above n e x i above) at)
    ∙ sym (ap (λ o. by_order o ((n, v) ∷ e ∷ x) ((e.0, v) ∷ x) (e ∷ put nexus_cmp n v x)) (above 0 d (omega arith)))

-- an entry inserted where a nexus would stand is `put`
pub insert-place : {X : Type 0} (n : Nexus) (v : X) (x : List (Nexus × X)) (i : ℕ) → i ≤ length x → IsAbove n x i → IsBelow n x i → insert x i (n, v) ≡ put nexus_cmp n v x
insert-place n v [] zero le above below = refl
insert-place n v [] (suc i) le above below = absurd (omega arith)
insert-place n v (e ∷ x) zero le above below = sym (ap (λ o. by_order o ((n, v) ∷ e ∷ x) ((e.0, v) ∷ x) (e ∷ put nexus_cmp n v x)) (below 0 e (omega arith) (omega arith)))
insert-place n v (e ∷ x) (suc i) le above below =
    ap (λ y. e ∷ y) (insert-place n v x i (omega arith) (rest_above n e x i above) (rest_below n e x i below))
    ∙ sym (ap (λ o. by_order o ((n, v) ∷ e ∷ x) ((e.0, v) ∷ x) (e ∷ put nexus_cmp n v x)) (above 0 e (omega arith)))
