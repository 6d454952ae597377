-- One walk over slots and entries that both ascend by nexus, which raises a condition for each nexus of the entries but those that are excepted.
use Rattle.std.proofs.Common.{◌≡◌, ℕ, ◌+◌, ◌<◌, ◌≤◌, zero, suc, T, Bool, true, false, cond, List, [], ◌∷◌, length, length-drop, drop, map, get_or, get_or-drop, Some, None, Ok, refl, sym, ap, subst, ◌∙◌, arith}
use Rattle.std.proofs.Math.ListN.{set}
use Rattle.std.proofs.lemmas.List.{drop_more, get_or_default}
use Rattle.std.specs.Cmp.{Equal-is}
use Rattle.std.specs.List.{cons_option, refill}
use Rattle.std.specs.FinMap.{is_sorted}
use Rattle.std.specs.declared.cmp.Ordering.TheVariants.{Less, Equal, Greater}
use Rattle.std.specs.Ordering.{ordering_reverse}
use Rattle.scsi_nexus.specs.declared.nexus.Nexus.{Nexus}
use Rattle.scsi_nexus.specs.Order.{nexus_cmp}
use Rattle.scsi_nexus.specs.Place.{IsAbove, IsAt}
use Rattle.scsi_nexus.proofs.NexusLaws.{nexus_total, nexus_exact, eq_by_cmp-nexus, same_nexus-refl}
use Rattle.scsi_nexus.proofs.PlaceLemmas.{at_place, above_before, above_more, below_more, find-no_place}
use Rattle.unit_attention.specs.declared.kind.Kind.{Kind}
use Rattle.unit_attention.specs.Pending.{with_kind}
use Rattle.unit_attention.specs.Queues.{Slots, slot_of, raised, all_raised, is_excepted, for_others}
use Rattle.unit_attention.proofs.SlotLemmas.{found_at, set_at, same_without, sorted_as, refill-whole}
use Rattle.unit_attention.proofs.SlotOf.{sorted-raised, length-raised}

-- the entries from one on are above each slot before a place
abbrev pub ArePast : {X : Type 0} → List (Nexus × X) → ℕ → Slots → ℕ → Type 0
ArePast {X} x at q place = (i : ℕ) (d : Nexus × X) → at ≤ i → i < length x → IsAbove (get_or x i d).0 q place

-- one entry further
pub past_entry : {X : Type 0} (x : List (Nexus × X)) (at : ℕ) (q : Slots) (place : ℕ) → ArePast x at q place → ArePast x (at + 1) q place
past_entry x at q place past i d from within = past i d (omega arith) within

reversed : (a b : Nexus) → nexus_cmp a b ≡ Greater → nexus_cmp b a ≡ Less
reversed a b h = nexus_total.antisymm b a ∙ ap ordering_reverse h

-- one slot further, where that is below the entry
pub past_slot : {X : Type 0} (x : List (Nexus × X)) (at : ℕ) (q : Slots) (place : ℕ) (a : Nexus × X) (e : Nexus × List Kind) → T (is_sorted nexus_cmp x) → T (is_sorted nexus_cmp q) → at < length x → place < length q
    → nexus_cmp (get_or q place e).0 (get_or x at a).0 ≡ Less → ArePast x at q (place + 1)
past_slot x at q place a e sx sq inx inq less i d from within =
    let above : nexus_cmp (get_or x at a).0 (get_or q place e).0 ≡ Greater = nexus_total.antisymm (get_or x at a).0 (get_or q place e).0 ∙ ap ordering_reverse less in
    above_more (get_or x i d).0 q place e sq inq (below_more (get_or q place e).0 x at a sx inx above i d from within)

-- one entry and one slot further, where they are of one nexus
pub past_both : {X : Type 0} (x : List (Nexus × X)) (at : ℕ) (q : Slots) (place : ℕ) (a : Nexus × X) (e : Nexus × List Kind) → T (is_sorted nexus_cmp x) → T (is_sorted nexus_cmp q) → at < length x → place < length q
    → (get_or q place e).0 ≡ (get_or x at a).0 → ArePast x (at + 1) q (place + 1)
past_both x at q place a e sx sq inx inq same i d from within =
    let n = (get_or x i d).0 in
    let here : IsAt n x i = at_place n x i d within ((Equal-is (nexus_cmp n n)).0 (eq_by_cmp-nexus n n ∙ same_nexus-refl n)) in
    let above : nexus_cmp n (get_or x at a).0 ≡ Greater = above_before n x i sx within here at a (omega arith) in
    above_more n q place e sq inq (ap (λ m. nexus_cmp m n) same ∙ reversed n (get_or x at a).0 above)

-- a change of what waits at a place leaves the nexuses of the slots
nexus-set : (q : Slots) (i : ℕ) (ks : List Kind) (e : Nexus × List Kind) (j : ℕ) (d : Nexus × List Kind) → i < length q → (get_or (set q i ((get_or q i e).0, ks)) j d).0 ≡ (get_or q j d).0
nexus-set [] i ks e j d lt = absurd (omega arith)
nexus-set (a ∷ q) zero ks e zero d lt = refl
nexus-set (a ∷ q) zero ks e (suc j) d lt = refl
nexus-set (a ∷ q) (suc i) ks e zero d lt = refl
nexus-set (a ∷ q) (suc i) ks e (suc j) d lt = nexus-set q i ks e j d (omega arith)

pub past_set : {X : Type 0} (x : List (Nexus × X)) (at : ℕ) (q : Slots) (place : ℕ) (i : ℕ) (e : Nexus × List Kind) (ks : List Kind) → i < length q
    → ArePast x at q place → ArePast x at (set q i ((get_or q i e).0, ks)) place
past_set x at q place i e ks lt past k d from within j b before =
    ap (λ m. nexus_cmp (get_or x k d).0 m) (nexus-set q i ks e j b lt) ∙ past k d from within j b before

-- the entry is below the slot at the place and above those before it, so it has none
pub absent_between : {X : Type 0} (x : List (Nexus × X)) (at : ℕ) (q : Slots) (place : ℕ) (a : Nexus × X) (e : Nexus × List Kind) → T (is_sorted nexus_cmp q) → at < length x → place < length q
    → ArePast x at q place → nexus_cmp (get_or q place e).0 (get_or x at a).0 ≡ Greater → slot_of q (get_or x at a).0 ≡ None
absent_between x at q place a e sq inx inq past greater =
    find-no_place (get_or x at a).0 q place (omega arith) (past at a (omega arith) inx) (below_more (get_or x at a).0 q place e sq inq greater)

module _ (s : Nexus) (named : List Nexus) (k : Kind) where
  -- the slots once the condition was raised for these entries
  abbrev pub others_told : {X : Type 0} → Slots → List (Nexus × X) → Slots
  others_told q x = all_raised q (for_others s named k (map (λ e. e.0) x))

  -- and for one nexus
  abbrev pub one_told : Slots → Nexus → Slots
  one_told q n = cond (is_excepted s named n) q (raised q n k)

  told_cons : (q : Slots) (n : Nexus) (ns : List Nexus) → all_raised q (for_others s named k (n ∷ ns)) ≡ all_raised (one_told q n) (for_others s named k ns)
  told_cons q n ns =
      elim (is_excepted s named n) as (λ (b : Bool). all_raised q (cons_option (cond b None (Some (n, k))) (for_others s named k ns)) ≡ all_raised (cond b q (raised q n k)) (for_others s named k ns)) [
        | true ↦ refl
        | false ↦ refl
      ]

  pub told_next : {X : Type 0} (q : Slots) (x : List (Nexus × X)) (i : ℕ) (d : Nexus × X) → i < length x → others_told q (drop i x) ≡ others_told (one_told q (get_or x i d).0) (drop (i + 1) x)
  told_next {X} q x i d lt = ap (λ (y : List (Nexus × X)). others_told q y) (drop_more x i d lt) ∙ told_cons q (get_or x i d).0 (map (λ (e : Nexus × X). e.0) (drop (i + 1) x))

  -- nothing changes for a nexus without a slot
  pub one_absent : (q : Slots) (n : Nexus) → slot_of q n ≡ None → one_told q n ≡ q
  one_absent q n h =
      elim (is_excepted s named n) as (λ (b : Bool). cond b q (raised q n k) ≡ q) [
        | true ↦ refl
        | false ↦ sym (same_without n q (λ ks. with_kind ks k) h)
      ]

  -- nor for many of them
  all_absent : {X : Type 0} (q : Slots) (x : List (Nexus × X)) → ((i : ℕ) (d : Nexus × X) → i < length x → slot_of q (get_or x i d).0 ≡ None) → others_told q x ≡ q
  all_absent q [] h = refl
  all_absent {X} q (e ∷ x) h =
      told_cons q e.0 (map (λ (d : Nexus × X). d.0) x) ∙ ap (λ (r : Slots). others_told r x) (one_absent q e.0 (h 0 e (omega arith))) ∙ all_absent q x (λ i d lt. h (suc i) d (omega arith))

  -- past an entry without a slot
  pub told_past : {X : Type 0} (q : Slots) (x : List (Nexus × X)) (i : ℕ) (d : Nexus × X) → i < length x → slot_of q (get_or x i d).0 ≡ None → others_told q (drop (i + 1) x) ≡ others_told q (drop i x)
  told_past {X} q x i d lt absent = ap (λ (r : Slots). others_told r (drop (i + 1) x)) (sym (one_absent q (get_or x i d).0 absent)) ∙ sym (told_next q x i d lt)

  -- past the last slot
  pub told_end : {X : Type 0} (q : Slots) (x : List (Nexus × X)) (at place : ℕ) → length q ≤ place → ArePast x at q place → others_told q (drop at x) ≡ q
  told_end {X} q x at place end past =
      all_absent q (drop at x) (λ i d lt.
      let within : at + i < length x = omega (arith, length-drop at x) in
      let absent : slot_of q (get_or x (at + i) d).0 ≡ None = find-no_place (get_or x (at + i) d).0 q (length q) (omega arith) (λ j e before. past (at + i) d (omega arith) within j e (omega arith)) (λ j e from inside. absurd (omega arith)) in
      ap (λ (f : Nexus × X). slot_of q f.0) (get_or-drop at x i d) ∙ absent)

  -- past an entry and its slot, where the condition was raised
  pub told_both : {X : Type 0} (q r : Slots) (x : List (Nexus × X)) (at place : ℕ) (a : Nexus × X) (e f : Nexus × List Kind) (ks : List Kind) → T (is_sorted nexus_cmp x) → T (is_sorted nexus_cmp q) → at < length x → place < length q
      → nexus_cmp (get_or q place f).0 (get_or x at a).0 ≡ Equal → is_excepted s named (get_or x at a).0 ≡ false → ks ≡ with_kind (get_or q place e).1 k → r ≡ set q place ((get_or q place e).0, ks)
      → (others_told r (drop (at + 1) x) ≡ others_told q (drop at x)) × T (is_sorted nexus_cmp r) × ArePast x (at + 1) r (place + 1)
  told_both {X} q r x at place a e f ks sx sq inx inq equal other is written =
      let n = (get_or x at a).0 in
      let equally : nexus_cmp (get_or q place e).0 n ≡ Equal = ap (λ (d : Nexus × List Kind). nexus_cmp d.0 n) (get_or_default q place e f inq) ∙ equal in
      let same : (get_or q place e).0 ≡ n = nexus_exact (get_or q place e).0 n equally in
      let here : IsAt n q place = at_place n q place e inq (nexus_total.antisymm n (get_or q place e).0 ∙ ap ordering_reverse equally) in
      let found : (place < length q) × IsAbove n q place × IsAt n q place = (inq, above_before n q place sq inq here, here) in
      let change : r ≡ raised q n k = written ∙ set_at n q place e (λ js. with_kind js k) ks found (found_at n q (Ok place) found) is in
      let one : one_told q n ≡ raised q n k = ap (λ (b : Bool). cond b q (raised q n k)) other in (
        ap (λ (y : Slots). others_told y (drop (at + 1) x)) (change ∙ sym one) ∙ sym (told_next q x at a inx),
        sorted_as r (raised q n k) change (sorted-raised q n k sq),
        subst (λ (y : Slots). ArePast x (at + 1) y (place + 1)) (sym written) (past_set x (at + 1) q (place + 1) place e ks inq (past_both x at q place a e sx sq inx inq same)),
      )

  -- past an entry that is excepted, and its slot
  pub told_excepted : {X : Type 0} (q r : Slots) (x : List (Nexus × X)) (at place : ℕ) (a : Nexus × X) (e : Nexus × List Kind) → T (is_sorted nexus_cmp x) → T (is_sorted nexus_cmp q) → at < length x → place < length q
      → nexus_cmp (get_or q place e).0 (get_or x at a).0 ≡ Equal → is_excepted s named (get_or x at a).0 ≡ true → r ≡ q
      → (others_told r (drop (at + 1) x) ≡ others_told q (drop at x)) × T (is_sorted nexus_cmp r) × ArePast x (at + 1) r (place + 1)
  told_excepted {X} q r x at place a e sx sq inx inq equal excepted kept =
      let n = (get_or x at a).0 in
      let one : one_told q n ≡ q = ap (λ (b : Bool). cond b q (raised q n k)) excepted in (
        ap (λ (y : Slots). others_told y (drop (at + 1) x)) (kept ∙ sym one) ∙ sym (told_next q x at a inx),
        sorted_as r q kept sq,
        subst (λ (y : Slots). ArePast x (at + 1) y (place + 1)) (sym kept) (past_both x at q place a e sx sq inx inq (nexus_exact (get_or q place e).0 n equal)),
      )

-- attentions leave the slots ascending, and as many
pub sorted-all_raised : (q : Slots) (attentions : List (Nexus × Kind)) → T (is_sorted nexus_cmp q) → T (is_sorted nexus_cmp (all_raised q attentions))
sorted-all_raised q [] h = h
sorted-all_raised q (a ∷ rest) h = sorted-all_raised (raised q a.0 a.1) rest (sorted-raised q a.0 a.1 h)

pub length-all_raised : (q : Slots) (attentions : List (Nexus × Kind)) → T (is_sorted nexus_cmp q) → length (all_raised q attentions) ≡ length q
length-all_raised q [] h = refl
length-all_raised q (a ∷ rest) h = length-all_raised (raised q a.0 a.1) rest (sorted-raised q a.0 a.1 h) ∙ length-raised q a.0 a.1 h

-- where the code raised them in the slice s of the fields x
pub sorted-written : (x s w : Slots) (attentions : List (Nexus × Kind)) → s ≡ x → w ≡ all_raised s attentions → T (is_sorted nexus_cmp x) → T (is_sorted nexus_cmp (refill (length x) x w))
sorted-written x s w attentions sx is h =
    let now : w ≡ all_raised x attentions = is ∙ ap (λ (q : Slots). all_raised q attentions) sx in
    sorted_as (refill (length x) x w) (all_raised x attentions) (refill-whole x w (ap length now ∙ length-all_raised x attentions h) ∙ now) (sorted-all_raised x attentions h)
