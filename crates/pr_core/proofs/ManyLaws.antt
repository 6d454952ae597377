-- Several nexuses put into the keys, or taken out of them, one after another.
use Rattle.std.proofs.Common.{◌≡◌, ◌≢◌, ℕ, zero, suc, ◌+◌, ◌<◌, ◌≤◌, true, false, not, ◌==◌, ◌||◌, List, [], ◌∷◌, length, take, get_or, sym, ap, subst, ◌∙◌, arith}
use Rattle.std.specs.Prelude.{if◌then◌else◌, filter, nat_le, nat_lt}
use Rattle.std.specs.declared.cmp.Ordering.TheVariants.{Less, Equal, Greater}
use Rattle.std.specs.FinMap.{put}
use Rattle.std.specs.FinMap.Entries.{by_order}
use Rattle.std.proofs.lemmas.Grind.{common_steps}
use Rattle.std.proofs.lemmas.List.{take_more}
use Rattle.std.proofs.lemmas.List.Sums.{fold_push}
use Rattle.scsi_nexus.specs.declared.nexus.Nexus.{Nexus}
use Rattle.scsi_nexus.specs.Order.{nexus_cmp, same_nexus}
use Rattle.permit_tables.specs.Pairs.{key_in}
use Rattle.pr_core.specs.Acts.{Register}
use Rattle.pr_core.specs.State.{State, Keys, capacity, keys_after}
use Rattle.pr_core.proofs.Steps.{registered, unregistered}
use Rattle.pr_core.specs.Table.{IsProper, put_all, remove_all}
use Rattle.pr_core.proofs.RoomForKeys.{length-filter-le, length-put-one}

-- none is lost, and at most one comes
pub length-put-between : (n : Nexus) (k : ℕ) (x : Keys) → (length x ≤ length (put nexus_cmp n k x)) × (length (put nexus_cmp n k x) ≤ length x + 1)
length-put-between n k [] = (omega arith, omega arith)
length-put-between n k (e ∷ x) =
    let rest = length-put-between n k x in
    elim (nexus_cmp n e.0) as (λ o. let y = by_order o ((n, k) ∷ e ∷ x) ((e.0, k) ∷ x) (e ∷ put nexus_cmp n k x) in (length (e ∷ x) ≤ length y) × (length y ≤ length (e ∷ x) + 1)) [
      | Less ↦ (omega arith, omega arith)
      | Equal ↦ (omega arith, omega arith)
      | Greater ↦ (omega (arith, rest.0), omega (arith, rest.1))
    ]

pub length_put_all : (k : ℕ) (x : Keys) (ns : List Nexus) → (length x ≤ length (put_all k x ns)) × (length (put_all k x ns) ≤ length x + length ns)
length_put_all k x [] = (omega arith, omega arith)
length_put_all k x (n ∷ ns) =
    let first = length-put-between n k x in
    let rest = length_put_all k (put nexus_cmp n k x) ns in
    (omega (arith, first.0, rest.0), omega (arith, first.1, rest.1))

pub length-remove_all : (x : Keys) (ns : List Nexus) → length (remove_all x ns) ≤ length x
length-remove_all x [] = omega arith
length-remove_all x (n ∷ ns) =
    let first = length-filter-le (λ e. not (same_nexus e.0 n)) x in
    let rest = length-remove_all (filter (λ e. not (same_nexus e.0 n)) x) ns in
    omega (arith, first, rest)

-- one more of them
pub put_all_more : (k : ℕ) (x : Keys) (ns : List Nexus) (i : ℕ) (d : Nexus) → i < length ns → put_all k x (take (i + 1) ns) ≡ put nexus_cmp (get_or ns i d) k (put_all k x (take i ns))
put_all_more k x ns i d lt = ap (put_all k x) (take_more ns i d lt) ∙ fold_push (λ y n. put nexus_cmp n k y) x (take i ns) (get_or ns i d)

pub remove_all_more : (x : Keys) (ns : List Nexus) (i : ℕ) (d : Nexus) → i < length ns → remove_all x (take (i + 1) ns) ≡ filter (λ e. not (same_nexus e.0 (get_or ns i d))) (remove_all x (take i ns))
remove_all_more x ns i d lt = ap (remove_all x) (take_more ns i d lt) ∙ fold_push (λ y n. filter (λ (e : Nexus × ℕ). not (same_nexus e.0 n)) y) x (take i ns) (get_or ns i d)

-- some of them are no more than all
pub length_put_all_some : (k : ℕ) (x : Keys) (ns : List Nexus) (i : ℕ) → length (put_all k x (take i ns)) ≤ length (put_all k x ns)
length_put_all_some k x ns zero = (length_put_all k x ns).0
length_put_all_some k x [] (suc i) = omega arith
length_put_all_some k x (n ∷ ns) (suc i) = length_put_all_some k (put nexus_cmp n k x) ns i

pub put_within : (k : ℕ) (x : Keys) (ns : List Nexus) (i : ℕ) (d : Nexus) → i < length ns → length (put nexus_cmp (get_or ns i d) k (put_all k x (take i ns))) ≤ length (put_all k x ns)
put_within k x ns i d lt = subst (λ (y : Keys). length y ≤ length (put_all k x ns)) (put_all_more k x ns i d lt) (length_put_all_some k x ns (i + 1))

-- where one finds no room, not all of them do
pub too_many : (k : ℕ) (x y : Keys) (ns : List Nexus) (i : ℕ) (d : Nexus) → y ≡ put_all k x (take i ns) → i < length ns → nat_le (length (put nexus_cmp (get_or ns i d) k y)) capacity ≡ false
    → nat_le (length (put_all k x ns)) capacity ≡ false
too_many k x y ns i d is lt none =
    let within : length (put nexus_cmp (get_or ns i d) k y) ≤ length (put_all k x ns) = subst (λ (z : Keys). length (put nexus_cmp (get_or ns i d) k z) ≤ length (put_all k x ns)) (sym is) (put_within k x ns i d lt) in
    grind (arith, common_steps, within, none)

-- one finds room beside fewer than there is room for, or where it is registered
pub room_for_one : (n : Nexus) (k : ℕ) (y : Keys) → IsProper y → length y ≤ capacity → nat_le (length (put nexus_cmp n k y)) capacity ≡ (nat_lt (length y) capacity || not (key_in y n == 0))
room_for_one n k y p room = counted (key_in y n) (length y) _ (length-put-one n k y p) room
  where
    counted : (j l a : ℕ) → a + (if not (j == 0) then 1 else 0) ≡ l + 1 → l ≤ capacity → nat_le a capacity ≡ (nat_lt l capacity || not (j == 0))
    counted j l a e room = grind (arith, common_steps)

-- whether a REGISTER finds room, by what it does to the keys in place
pub unregistering_fits : (v : State) (s : Nexus) (ns : List Nexus) → IsProper v.keys → length v.keys ≤ capacity → nat_le (length (keys_after v s (Register 0 ns))) capacity ≡ true
unregistering_fits v s ns p room =
    let fewer = length-remove_all v.keys ns in
    subst (λ (y : Keys). nat_le (length y) capacity ≡ true) (unregistered v s ns p) (grind (arith, common_steps, fewer, room))

pub registering_is : (v : State) (s : Nexus) (k : ℕ) (ns : List Nexus) → k ≢ 0 → IsProper v.keys → nat_le (length (keys_after v s (Register k ns))) capacity ≡ nat_le (length (put_all k v.keys ns)) capacity
registering_is v s k ns keyed p = ap (λ (y : Keys). nat_le (length y) capacity) (sym (registered v s k ns keyed p))
