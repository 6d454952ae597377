-- What `put` and a filter make of proper keys.
use Rattle.std.proofs.Common.{◌≡◌, ◌≢◌, ℕ, Bool, true, false, cond, ◌==◌, ◌&&◌, [], ◌∷◌, refl, sym, ap, ◌∙◌, arith, Some}
use Rattle.std.specs.Prelude.{T, if◌then◌else◌, unwrap_or, filter}
use Rattle.std.specs.declared.cmp.Ordering.{Ordering}
use Rattle.std.proofs.lemmas.Bool.{and_parts}
use Rattle.std.specs.Ordering.{is_lt, is_eq}
use Rattle.std.proofs.lemmas.Grind.{common_steps}
use Rattle.std.specs.FinMap.{find, put, is_sorted}
use Rattle.std.specs.FinMap.Entries.{below_all, is_sorted-put}
use Rattle.std.specs.declared.cmp.Ordering.TheVariants.{Less, Equal, Greater}
use Rattle.scsi_nexus.specs.declared.nexus.Nexus.{Nexus}
use Rattle.scsi_nexus.specs.Order.{nexus_cmp, same_nexus}
use Rattle.scsi_nexus.proofs.NexusLaws.{nexus_total, same_nexus-true, same_nexus-refl, eq_by_cmp-nexus}
use Rattle.permit_tables.specs.Pairs.{key_in}
use Rattle.pr_core.specs.State.{Keys}
use Rattle.pr_core.specs.Table.{IsProper, all_keyed}
use Rattle.pr_core.proofs.KeyLaws.{keyed-put}
use Rattle.std.proofs.lemmas.Bool.{false_from_ne_true}
use Rattle.std.proofs.lemmas.Map.Views.{exact_unsigned_eq}

pub T-left : (a b : Bool) → T (a && b) → T a
T-left true b h = tt
T-left false b h = absurd h

pub T-right : (a b : Bool) → T (a && b) → T b
T-right true b h = h
T-right false b h = absurd h

pub T-both : (a b : Bool) → T a → T b → T (a && b)
T-both true b h k = k
T-both false b h k = absurd h

pub less_apart : (o : Ordering) → T (is_lt o) → is_eq o ≡ false
less_apart Less h = refl
less_apart Equal h = absurd h
less_apart Greater h = refl

pub proper-put : (n : Nexus) (k : ℕ) (x : Keys) → k ≢ 0 → IsProper x → IsProper (put nexus_cmp n k x)
proper-put n k x keyed p = record { sorted = is_sorted-put nexus_cmp nexus_total n k x p.sorted; keyed = keyed-put n k x (false_from_ne_true (k == 0) (λ e. keyed (exact_unsigned_eq k 0 e))) p.keyed }

below_filter : (p : Nexus × ℕ → Bool) (n : Nexus) (x : Keys) → T (below_all nexus_cmp n x) → T (below_all nexus_cmp n (filter p x))
below_filter p n [] h = tt
below_filter p n (e ∷ x) h =
    let rest = below_filter p n x (T-right _ _ h) in
    elim (p e) as (λ b. T (below_all nexus_cmp n (cond b (e ∷ filter p x) (filter p x)))) [ true ↦ T-both _ _ (T-left _ _ h) rest | false ↦ rest ]

sorted-filter : (p : Nexus × ℕ → Bool) (x : Keys) → T (is_sorted nexus_cmp x) → T (is_sorted nexus_cmp (filter p x))
sorted-filter p [] h = tt
sorted-filter p (e ∷ x) h =
    let rest = sorted-filter p x (T-right _ _ h) in
    elim (p e) as (λ b. T (is_sorted nexus_cmp (cond b (e ∷ filter p x) (filter p x)))) [ true ↦ T-both _ _ (below_filter p e.0 x (T-left _ _ h)) rest | false ↦ rest ]

keyed-filter : (p : Nexus × ℕ → Bool) (x : Keys) → all_keyed x ≡ true → all_keyed (filter p x) ≡ true
keyed-filter p [] h = refl
keyed-filter p (e ∷ x) h =
    let parts = and_parts _ _ h in
    let rest = keyed-filter p x parts.1 in
    elim (p e) as (λ b. all_keyed (cond b (e ∷ filter p x) (filter p x)) ≡ true) [ true ↦ grind (arith, common_steps) | false ↦ rest ]

pub proper-filter : (p : Nexus × ℕ → Bool) (x : Keys) → IsProper x → IsProper (filter p x)
proper-filter p x h = record { sorted = sorted-filter p x h.sorted; keyed = keyed-filter p x h.keyed }

-- one below all entries has none
pub key_in-below : (q : Nexus) (x : Keys) → T (below_all nexus_cmp q x) → key_in x q ≡ 0
key_in-below q [] h = refl
key_in-below q (e ∷ x) h =
    ap (λ b. unwrap_or (cond b (Some e.1) (find nexus_cmp q x)) 0) (less_apart (nexus_cmp q e.0) (T-left _ _ h)) ∙ key_in-below q x (T-right _ _ h)

pub key_in-same : (q : Nexus) (e : Nexus × ℕ) (x : Keys) → same_nexus q e.0 ≡ true → key_in (e ∷ x) q ≡ e.1
key_in-same q e x s = ap (λ b. unwrap_or (cond b (Some e.1) (find nexus_cmp q x)) 0) (eq_by_cmp-nexus q e.0 ∙ s)

pub key_in-other : (q : Nexus) (e : Nexus × ℕ) (x : Keys) → same_nexus q e.0 ≡ false → key_in (e ∷ x) q ≡ key_in x q
key_in-other q e x s = ap (λ b. unwrap_or (cond b (Some e.1) (find nexus_cmp q x)) 0) (eq_by_cmp-nexus q e.0 ∙ s)

filtered-first : (p : Nexus × ℕ → Bool) (e : Nexus × ℕ) (x : Keys) → T (below_all nexus_cmp e.0 x) → key_in (filter p (e ∷ x)) e.0 ≡ (if p e then e.1 else 0)
filtered-first p e x h =
    elim (p e) as (λ b. key_in (cond b (e ∷ filter p x) (filter p x)) e.0 ≡ cond b e.1 0) [
      | true ↦ key_in-same e.0 e (filter p x) (same_nexus-refl e.0)
      | false ↦ key_in-below e.0 (filter p x) (below_filter p e.0 x h)
    ]

filtered-other : (p : Nexus × ℕ → Bool) (e : Nexus × ℕ) (x : Keys) (q : Nexus) → same_nexus q e.0 ≡ false → key_in (filter p (e ∷ x)) q ≡ key_in (filter p x) q
filtered-other p e x q s = elim (p e) as (λ b. key_in (cond b (e ∷ filter p x) (filter p x)) q ≡ key_in (filter p x) q) [ true ↦ key_in-other q e (filter p x) s | false ↦ refl ]

-- the key of a nexus that passes a test on its entry
abbrev pub passing : (Nexus × ℕ → Bool) → Nexus → ℕ → ℕ
passing p q k = if p (q, k) then k else 0

pub key_in-filter : (p : Nexus × ℕ → Bool) (x : Keys) (q : Nexus) → T (is_sorted nexus_cmp x) → key_in (filter p x) q ≡ passing p q (key_in x q)
key_in-filter p [] q h = elim (p (q, 0)) as (λ (b : Bool). ◌≡◌ {A = ℕ} 0 (cond b 0 0)) [ true ↦ refl | false ↦ refl ]
key_in-filter p (e ∷ x) q h =
    elim (same_nexus q e.0) as (λ b. same_nexus q e.0 ≡ b → key_in (filter p (e ∷ x)) q ≡ passing p q (key_in (e ∷ x) q)) [
      | true ↦ λ s.
          let same : q ≡ e.0 = same_nexus-true q e.0 s in
          ap (key_in (filter p (e ∷ x))) same ∙ filtered-first p e x (T-left _ _ h) ∙ ap (λ n. passing p n e.1) (sym same) ∙ ap (passing p q) (sym (key_in-same q e x s))
      | false ↦ λ s. filtered-other p e x q s ∙ key_in-filter p x q (T-right _ _ h) ∙ ap (passing p q) (sym (key_in-other q e x s))
    ] refl
