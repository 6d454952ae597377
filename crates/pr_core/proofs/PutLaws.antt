-- A key written at the place of a nexus, or inserted where it would stand, is `put`.
use Rattle.std.proofs.Common.{◌≡◌, ℕ, zero, suc, ◌<◌, ◌≤◌, [], ◌∷◌, ◌++◌, length, get_or, refl, sym, ap, subst, ◌∙◌, arith}
use Rattle.std.specs.Prelude.{insert}
use Rattle.std.specs.List.{refill}
use Rattle.std.specs.declared.cmp.Ordering.TheVariants.{Less}
use Rattle.std.specs.FinMap.{put}
use Rattle.std.specs.FinMap.Entries.{by_order}
use Rattle.std.proofs.Math.ListN.{set}
use Rattle.std.proofs.lemmas.List.{length-set, take-append-le, take_all}
use Rattle.scsi_nexus.specs.declared.nexus.Nexus.{Nexus}
use Rattle.scsi_nexus.specs.Order.{nexus_cmp}
use Rattle.scsi_nexus.specs.Place.{IsAbove, IsBelow, IsAt}
use Rattle.scsi_nexus.proofs.PlaceLemmas.{set-place, insert-place}
use Rattle.pr_core.specs.State.{Keys}

-- as many elements as there were fill a list whole
filled : (x y : Keys) → length y ≡ length x → refill (length x) x y ≡ y
filled x y same =
    let within : length x ≤ length y = omega arith in
    rw take-append-le (take_all (length x) y (omega arith))

-- x as a slice lent for writing, y, and as the slice that was searched, z
pub written : (n : Nexus) (k : ℕ) (x y z : Keys) (i : ℕ) (d : Nexus × ℕ) → y ≡ x → z ≡ x → (i < length z) × IsAbove n z i × IsAt n z i
    → refill (length x) x (set y i ((get_or y i d).0, k)) ≡ put nexus_cmp n k x
written n k x y z i d lent searched place =
    let at : (i < length x) × IsAbove n x i × IsAt n x i = subst (λ (w : Keys). (i < length w) × IsAbove n w i × IsAt n w i) searched place in
    ap (λ (w : Keys). refill (length x) x (set w i ((get_or w i d).0, k))) lent
    ∙ filled x (set x i ((get_or x i d).0, k)) (length-set x i ((get_or x i d).0, k)) ∙ set-place n k x i d at.0 at.1 at.2

pub inserted : (n : Nexus) (k : ℕ) (x z : Keys) (i : ℕ) → z ≡ x → (i ≤ length z) × IsAbove n z i × IsBelow n z i → insert x i (n, k) ≡ put nexus_cmp n k x
inserted n k x z i searched place =
    let gap : (i ≤ length x) × IsAbove n x i × IsBelow n x i = subst (λ (w : Keys). (i ≤ length w) × IsAbove n w i × IsBelow n w i) searched place in
    insert-place n k x i gap.0 gap.1 gap.2

rest_above : (n : Nexus) (e : Nexus × ℕ) (x : Keys) (i : ℕ) → IsAbove n (e ∷ x) (suc i) → IsAbove n x i
rest_above n e x i above j d lt = above (suc j) d (omega arith)

-- inserted below the first entry that is above the nexus
pub put_below : (n : Nexus) (k : ℕ) (x : Keys) (i : ℕ) (d : Nexus × ℕ) → i < length x → IsAbove n x i → nexus_cmp n (get_or x i d).0 ≡ Less → insert x i (n, k) ≡ put nexus_cmp n k x
put_below n k [] i d lt above less = absurd (omega arith)
put_below n k (e ∷ x) zero d lt above less = sym (ap (λ o. by_order o ((n, k) ∷ e ∷ x) ((e.0, k) ∷ x) (e ∷ put nexus_cmp n k x)) less)
put_below n k (e ∷ x) (suc i) d lt above less =
    ap (λ y. e ∷ y) (put_below n k x i d (omega arith) (rest_above n e x i above) less)
    ∙ sym (ap (λ o. by_order o ((n, k) ∷ e ∷ x) ((e.0, k) ∷ x) (e ∷ put nexus_cmp n k x)) (above 0 d (omega arith)))

-- added above all entries
pub put_last : (n : Nexus) (k : ℕ) (x : Keys) → IsAbove n x (length x) → x ++ (n, k) ∷ [] ≡ put nexus_cmp n k x
put_last n k [] above = refl
put_last n k (e ∷ x) above =
    ap (λ y. e ∷ y) (put_last n k x (λ j d lt. above (suc j) d (omega arith)))
    ∙ sym (ap (λ o. by_order o ((n, k) ∷ e ∷ x) ((e.0, k) ∷ x) (e ∷ put nexus_cmp n k x)) (above 0 e (omega arith)))
