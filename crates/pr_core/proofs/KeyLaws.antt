-- The table of an act's effects, as a law of the state that the act leaves.
use Rattle.std.proofs.Common.{◌≡◌, ◌≢◌, ℕ, Bool, true, false, cond, ◌==◌, ◌||◌, List, [], ◌∷◌, ◌++◌, refl, sym, ap, ◌∙◌, arith, Some, None, Option}
use Rattle.std.specs.Prelude.{if◌then◌else◌, unwrap_or, is_some, map}
use Rattle.std.specs.List.{list_any}
use Rattle.std.specs.FinMap.{find, put}
use Rattle.std.specs.FinMap.Entries.{find-put, is_some-find, is_sorted-put, same_entries, by_order}
use Rattle.std.specs.declared.cmp.Ordering.TheVariants.{Less, Equal, Greater}
use Rattle.std.specs.Ordering.{eq_by_cmp}
use Rattle.std.proofs.lemmas.Grind.{common_steps}
use Rattle.std.proofs.lemmas.List.Folds.{list_any-append}
use Rattle.std.proofs.lemmas.Bool.{or_parts, and_parts}
use Rattle.std.proofs.lemmas.List.Sums.{fold_push}
use Rattle.scsi_nexus.specs.declared.nexus.Nexus.{Nexus}
use Rattle.scsi_nexus.specs.Order.{nexus_cmp, same_nexus}
use Rattle.scsi_nexus.proofs.NexusLaws.{nexus_total, nexus_exact, eq_by_cmp-nexus, same_nexus-true}
use Rattle.pr_core.specs.Acts.{Act, Register, Reserve, Release, Clear, Preempt, Move}
use Rattle.pr_core.specs.Table.{all_keyed, IsProper}
use Rattle.permit_tables.specs.Pairs.{key_in}
use Rattle.pr_core.specs.State.{State, Keys, key, key_after, keys_by, named, keys_after, after, after_all, reservation_after, generation_after, power_on, registrants}

pub key_in-put : (x : Keys) (n : Nexus) (k : ℕ) (q : Nexus) → key_in (put nexus_cmp n k x) q ≡ (if same_nexus q n then k else key_in x q)
key_in-put x n k q =
    ap (λ o. unwrap_or o 0) (find-put nexus_cmp nexus_total q n k x ∙ ap (λ b. cond b (Some k) (find nexus_cmp q x)) (eq_by_cmp-nexus q n))
    ∙ elim (same_nexus q n) as (λ b. unwrap_or (cond b (Some k) (find nexus_cmp q x)) 0 ≡ cond b k (unwrap_or (find nexus_cmp q x) 0)) [ true ↦ refl | false ↦ refl ]

by_step : (f : Nexus → ℕ) (n q : Nexus) (x : Keys) (rest : Bool) → key_in x q ≡ cond rest (f q) 0
    → key_in (cond (f n == 0) x (put nexus_cmp n (f n) x)) q ≡ cond (same_nexus q n || rest) (f q) 0
by_step f n q x rest e =
    let same : same_nexus q n ≡ true → f q ≡ f n = λ h. ap f (same_nexus-true q n h) in
    grind (arith, common_steps, key_in-put x n (f n) q)

pub key_in-keys_by : (f : Nexus → ℕ) (ns : List Nexus) (q : Nexus) → key_in (keys_by f ns) q ≡ (if list_any (same_nexus q) ns then f q else 0)
key_in-keys_by f [] q = refl
key_in-keys_by f (n ∷ ns) q = by_step f n q (keys_by f ns) _ (key_in-keys_by f ns q)

none_there : (o : Option ℕ) → is_some o ≡ false → unwrap_or o 0 ≡ 0
none_there None h = refl
none_there (Some k) h = cc

-- who is not among a map's keys has none
pub key_in-outside : (x : Keys) (q : Nexus) → list_any (same_nexus q) (map (λ e. e.0) x) ≡ false → key_in x q ≡ 0
key_in-outside x q h =
    let alike : list_any (eq_by_cmp nexus_cmp q) (map (λ e. e.0) x) ≡ list_any (same_nexus q) (map (λ e. e.0) x) = λ i. list_any (λ n. eq_by_cmp-nexus q n i) (map (λ e. e.0) x) in
    none_there (find nexus_cmp q x) (is_some-find nexus_cmp q x ∙ alike ∙ h)

pub key_after-outside : (v : State) (s : Nexus) (a : Act) (q : Nexus) → list_any (same_nexus q) (named s a) ≡ false → key v q ≡ 0 → key_after v s a q ≡ 0
key_after-outside v s (Register k targets) q h e = grind (arith, common_steps)
key_after-outside v s (Reserve t) q h e = e
key_after-outside v s (Release t) q h e = e
key_after-outside v s Clear q h e = refl
key_after-outside v s (Preempt k t) q h e = grind (arith, common_steps)
key_after-outside v s (Move k d u) q h e = grind (arith, common_steps)

within : (any : Bool) (x k : ℕ) → k ≡ (if any then x else 0) → (any ≡ false → x ≡ 0) → k ≡ x
within true x k e h = e
within false x k e h = e ∙ sym (h refl)

-- the table, as a law of the state after
pub key-after : (v : State) (s : Nexus) (a : Act) (q : Nexus) → key (after v s a) q ≡ key_after v s a q
unfolding keys_after
key-after v s a q =
    let whole = key_in-keys_by (key_after v s a) (named s a ++ registrants v) q in
    let split = list_any-append (same_nexus q) (named s a) (registrants v) in
    within _ _ _ whole (λ h.
    let parts = or_parts _ _ (sym split ∙ h) in
    key_after-outside v s a q parts.0 (key_in-outside v.keys q parts.1))

-- a history with one act more
pub after_all-push : (base : State) (h : List (Nexus × Act)) (e : Nexus × Act) → after_all base (h ++ e ∷ []) ≡ after (after_all base h) e.0 e.1
after_all-push base h e = fold_push (λ v x. after v x.0 x.1) base h e

pub key-push : (base : State) (h : List (Nexus × Act)) (e : Nexus × Act) (q : Nexus) → key (after_all base (h ++ e ∷ [])) q ≡ key_after (after_all base h) e.0 e.1 q
key-push base h e q = ap (λ v. key v q) (after_all-push base h e) ∙ key-after (after_all base h) e.0 e.1 q

pub keyed-put : (n : Nexus) (k : ℕ) (x : Keys) → (k == 0) ≡ false → all_keyed x ≡ true → all_keyed (put nexus_cmp n k x) ≡ true
keyed-put n k [] h all = grind (arith, common_steps)
keyed-put n k (e ∷ x) h all =
    let rest = keyed-put n k x h in
    elim (nexus_cmp n e.0) as (λ o. all_keyed (by_order o ((n, k) ∷ e ∷ x) ((e.0, k) ∷ x) (e ∷ put nexus_cmp n k x)) ≡ true) [
      | Less ↦ grind (arith, common_steps)
      | Equal ↦ grind (arith, common_steps)
      | Greater ↦ grind (arith, common_steps)
    ]

proper-step : (f : Nexus → ℕ) (n : Nexus) (x : Keys) (b : Bool) → (f n == 0) ≡ b → IsProper x → IsProper (if b then x else put nexus_cmp n (f n) x)
proper-step f n x true e p = p
proper-step f n x false e p = record { sorted = is_sorted-put nexus_cmp nexus_total n (f n) x p.sorted; keyed = keyed-put n (f n) x e p.keyed }

pub proper-keys_by : (f : Nexus → ℕ) (ns : List Nexus) → IsProper (keys_by f ns)
proper-keys_by f [] = record { sorted = tt; keyed = refl }
proper-keys_by f (n ∷ ns) = proper-step f n (keys_by f ns) (f n == 0) refl (proper-keys_by f ns)

pub proper-after : (v : State) (s : Nexus) (a : Act) → IsProper (after v s a).keys
unfolding keys_after
proper-after v s a = proper-keys_by (key_after v s a) (named s a ++ registrants v)

pub proper-after_all : (v : State) (h : List (Nexus × Act)) → IsProper v.keys → IsProper (after_all v h).keys
proper-after_all v [] p = p
proper-after_all v (e ∷ h) p = proper-after_all (after v e.0 e.1) h (proper-after v e.0 e.1)

pub proper-power_on : IsProper power_on.keys
proper-power_on = record { sorted = tt; keyed = refl }

found_alike : (o r : Option ℕ) → o ≢ Some 0 → r ≢ Some 0 → unwrap_or o 0 ≡ unwrap_or r 0 → o ≡ r
found_alike None None g h e = refl
found_alike None (Some k) g h e = absurd (h (ap Some (sym e)))
found_alike (Some k) None g h e = absurd (g (ap Some e))
found_alike (Some k) (Some j) g h e = ap Some e

pub never_zero : (x : Keys) (q : Nexus) → all_keyed x ≡ true → find nexus_cmp q x ≢ Some 0
never_zero [] q h e = cc
never_zero (d ∷ x) q h e =
    elim (eq_by_cmp nexus_cmp q d.0) as (λ b. cond b (Some d.1) (find nexus_cmp q x) ≡ Some 0 → ⊥) [
      | true ↦ λ i. let z : d.1 ≡ 0 = cc in grind (arith, common_steps)
      | false ↦ λ i. never_zero x q (and_parts _ _ h).1 i
    ] e

-- proper keys that answer alike are equal
pub same_keys : (x y : Keys) → IsProper x → IsProper y → ((q : Nexus) → key_in x q ≡ key_in y q) → x ≡ y
same_keys x y p r h = same_entries nexus_cmp nexus_total nexus_exact x y p.sorted r.sorted (λ q. found_alike (find nexus_cmp q x) (find nexus_cmp q y) (never_zero x q p.keyed) (never_zero y q r.keyed) (h q))

-- the state after an act, by its table
pub after-is : (v : State) (s : Nexus) (a : Act) (x : State) → IsProper x.keys → ((q : Nexus) → key x q ≡ key_after v s a q)
    → x.reservation ≡ reservation_after v s a → x.generation ≡ generation_after v a → x ≡ after v s a
after-is v s a x p keys reservation generation =
    let same = same_keys x.keys (after v s a).keys p (proper-after v s a) (λ q. keys q ∙ sym (key-after v s a q)) in
    λ i. record { keys = same i; reservation = reservation i; generation = generation i }
