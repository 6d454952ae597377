-- A slot changed in its place is the change of the list.
use Rattle.std.proofs.Common.{◌≡◌, ℕ, ◌+◌, ◌<◌, ◌≤◌, T, Bool, true, false, cond, ◌&&◌, zero, suc, map, List, [], ◌∷◌, ◌++◌, length, take, drop, get_or, Option, Some, None, Result, Ok, Err, is_some, refl, sym, ap, subst, ◌∙◌, arith, add-one}
use Rattle.std.proofs.lemmas.List.{length-map}
use Rattle.std.specs.Prelude.{insert, IfOk, OnErr}
use Rattle.std.specs.List.{refill}
use Rattle.std.proofs.Math.ListN.{set, length-set}
use Rattle.std.proofs.Math.Seq.{take-append_seam}
use Rattle.std.specs.FinMap.{is_sorted, put}
use Rattle.std.specs.FinMap.Entries.{is_sorted-put, below_all}
use Rattle.scsi_nexus.specs.declared.nexus.Nexus.{Nexus}
use Rattle.scsi_nexus.specs.Order.{nexus_cmp}
use Rattle.scsi_nexus.specs.Place.{IsAbove, IsBelow, IsAt, IsPlaceOf}
use Rattle.scsi_nexus.proofs.NexusLaws.{nexus_total}
use Rattle.scsi_nexus.proofs.PlaceLemmas.{T-left, T-right, find-place, find-no_place, set-place, insert-place}
use Rattle.unit_attention.specs.declared.kind.Kind.{Kind}
use Rattle.unit_attention.specs.declared.kind.Kind.TheVariants.{PowerOn}
use Rattle.unit_attention.specs.Pending.{with_kind}
use Rattle.unit_attention.specs.Queues.{Slots, slot_of, has_slot, with_change, contacted, IsSlotAt}

both : (a b : Bool) → T a → T b → T (a && b)
both true b h k = k
both false b h k = absurd h

-- as many new elements as there were take the place of all
pub refill-whole : {X : Type 0} (xs ws : List X) → length ws ≡ length xs → refill (length xs) xs ws ≡ ws
refill-whole xs ws h = ap (λ k. take k (ws ++ drop (length ws) xs)) (sym h) ∙ take-append_seam ws (drop (length ws) xs)

pub found_at : (n : Nexus) (q : Slots) (r : Result ℕ ℕ) → IsPlaceOf n q r → IfOk r (λ place. IsSlotAt q n place)
found_at n q (Ok i) h = λ d. find-place n q i d h.0 h.1 h.2
found_at n q (Err i) h = tt

pub absent_at : (n : Nexus) (q : Slots) (r : Result ℕ ℕ) → IsPlaceOf n q r → OnErr r (slot_of q n ≡ None)
absent_at n q (Ok i) h = tt
absent_at n q (Err i) h = find-no_place n q i h.0 h.1 h.2

-- what is written at the place of a nexus is its change
pub set_at : (n : Nexus) (q : Slots) (i : ℕ) (e : Nexus × List Kind) (f : List Kind → List Kind) (ks : List Kind) → (i < length q) × IsAbove n q i × IsAt n q i → IsSlotAt q n i → ks ≡ f (get_or q i e).1
    → set q i ((get_or q i e).0, ks) ≡ with_change q n f
set_at n q i e f ks h slot is =
    set-place n ks q i e h.0 h.1 h.2
    ∙ ap (λ js. put nexus_cmp n js q) is
    ∙ sym (ap (λ (o : Option (List Kind)). elim o [ None ↦ q | Some js ↦ put nexus_cmp n (f js) q ]) (slot e))

-- the same, where the code wrote it to the slice of the whole
pub changed_at : (n : Nexus) (q : Slots) (i : ℕ) (e : Nexus × List Kind) (f : List Kind → List Kind) (ks : List Kind) → (i < length q) × IsAbove n q i × IsAt n q i → IsSlotAt q n i → ks ≡ f (get_or q i e).1
    → refill (length q) q (set q i ((get_or q i e).0, ks)) ≡ with_change q n f
changed_at n q i e f ks h slot is = refill-whole q (set q i ((get_or q i e).0, ks)) (length-set q i ((get_or q i e).0, ks)) ∙ set_at n q i e f ks h slot is

-- the same, over the fields x of the whole and the slice s that the code wrote to
pub changed_in : (n : Nexus) (x s q : Slots) (i : ℕ) (e : Nexus × List Kind) (f : List Kind → List Kind) (ks : List Kind) → s ≡ x → x ≡ q → (i < length q) × IsAbove n q i × IsAt n q i → IsSlotAt q n i → ks ≡ f (get_or s i e).1
    → refill (length x) x (set s i ((get_or s i e).0, ks)) ≡ with_change q n f
changed_in n x s q i e f ks sx xq h slot =
    let whole = subst (λ (y : Slots). ks ≡ f (get_or y i e).1 → refill (length y) y (set y i ((get_or y i e).0, ks)) ≡ with_change q n f) (sym xq) (changed_at n q i e f ks h slot) in
    subst (λ (y : Slots). ks ≡ f (get_or y i e).1 → refill (length x) x (set y i ((get_or y i e).0, ks)) ≡ with_change q n f) (sym sx) whole

pub sorted_as : (w q : Slots) → w ≡ q → T (is_sorted nexus_cmp q) → T (is_sorted nexus_cmp w)
sorted_as w q e h = subst (λ (y : Slots). T (is_sorted nexus_cmp y)) (sym e) h

pub same_without : (n : Nexus) (q : Slots) (f : List Kind → List Kind) → slot_of q n ≡ None → q ≡ with_change q n f
same_without n q f h = sym (ap (λ (o : Option (List Kind)). elim o [ None ↦ q | Some js ↦ put nexus_cmp n (f js) q ]) h)

pub sorted-change : (q : Slots) (n : Nexus) (f : List Kind → List Kind) → T (is_sorted nexus_cmp q) → T (is_sorted nexus_cmp (with_change q n f))
sorted-change q n f h = elim (slot_of q n) as (λ o. T (is_sorted nexus_cmp (elim o [ None ↦ q | Some js ↦ put nexus_cmp n (f js) q ]))) [ None ↦ h | Some js ↦ is_sorted-put nexus_cmp nexus_total n (f js) q h ]

pub has-at : (n : Nexus) (q : Slots) (i : ℕ) (e : Nexus × List Kind) → IsSlotAt q n i → has_slot q n ≡ true
has-at n q i e slot = ap is_some (slot e)

pub sorted-contact : (q : Slots) (n : Nexus) → T (is_sorted nexus_cmp q) → T (is_sorted nexus_cmp (put nexus_cmp n (PowerOn ∷ []) q))
sorted-contact q n h = is_sorted-put nexus_cmp nexus_total n (PowerOn ∷ []) q h

pub inserted_at : (n : Nexus) (q : Slots) (i : ℕ) → (i ≤ length q) × IsAbove n q i × IsBelow n q i → insert q i (n, PowerOn ∷ []) ≡ put nexus_cmp n (PowerOn ∷ []) q
inserted_at n q i h = insert-place n (PowerOn ∷ []) q i h.0 h.1 h.2

-- the same, over the fields x of the whole
pub inserted_in : (n : Nexus) (x q w : Slots) (i : ℕ) (ks : List Kind) → w ≡ insert x i (n, ks) → ks ≡ PowerOn ∷ [] → x ≡ q → (i ≤ length q) × IsAbove n q i × IsBelow n q i → w ≡ put nexus_cmp n (PowerOn ∷ []) q
inserted_in n x q w i ks is k xq h = is ∙ ap (λ js. insert x i (n, js)) k ∙ ap (λ (y : Slots). insert y i (n, PowerOn ∷ [])) xq ∙ inserted_at n q i h

pub contacted-same : (n : Nexus) (q : Slots) → has_slot q n ≡ true → q ≡ contacted q n
contacted-same n q h = sym (ap (λ (b : Bool). cond b q (put nexus_cmp n (PowerOn ∷ []) q)) h)

pub contacted-absent : (n : Nexus) (q : Slots) → slot_of q n ≡ None → contacted q n ≡ put nexus_cmp n (PowerOn ∷ []) q
contacted-absent n q h = ap (λ (o : Option (List Kind)). cond (is_some o) q (put nexus_cmp n (PowerOn ∷ []) q)) h

-- the first i entries changed
abbrev pub upto : (Nexus × List Kind → Nexus × List Kind) → ℕ → Slots → Slots
upto f zero q = q
upto f (suc i) [] = []
upto f (suc i) (e ∷ q) = f e ∷ upto f i q

pub length-upto : (f : Nexus × List Kind → Nexus × List Kind) (i : ℕ) (q : Slots) → length (upto f i q) ≡ length q
length-upto f zero q = refl
length-upto f (suc i) [] = refl
length-upto f (suc i) (e ∷ q) = let h = length-upto f i q in omega arith

pub get_or-upto : (f : Nexus × List Kind → Nexus × List Kind) (i : ℕ) (q : Slots) (d : Nexus × List Kind) → get_or (upto f i q) i d ≡ get_or q i d
get_or-upto f zero q d = refl
get_or-upto f (suc i) [] d = refl
get_or-upto f (suc i) (e ∷ q) d = get_or-upto f i q d

pub set-upto : (f : Nexus × List Kind → Nexus × List Kind) (i : ℕ) (q : Slots) (d : Nexus × List Kind) → i < length q → set (upto f i q) i (f (get_or q i d)) ≡ upto f (suc i) q
set-upto f zero [] d lt = absurd (omega arith)
set-upto f zero (e ∷ q) d lt = refl
set-upto f (suc i) [] d lt = absurd (omega arith)
set-upto f (suc i) (e ∷ q) d lt = ap (λ y. f e ∷ y) (set-upto f i q d (omega arith))

pub upto-all : (f : Nexus × List Kind → Nexus × List Kind) (q : Slots) → upto f (length q) q ≡ map f q
upto-all f [] = refl
upto-all f (e ∷ q) = ap (λ y. f e ∷ y) (upto-all f q)

-- the change of each entry that a reset makes
abbrev pub told : Kind → Nexus × List Kind → Nexus × List Kind
told k e = (e.0, with_kind e.1 k)

pub set_next : (k : Kind) (xs ws : Slots) (i : ℕ) (e : Nexus × List Kind) (ks : List Kind) → i < length xs → ws ≡ upto (told k) i xs → ks ≡ with_kind (get_or ws i e).1 k → set ws i ((get_or ws i e).0, ks) ≡ upto (told k) (i + 1) xs
set_next k xs ws i e ks lt h is =
    let here : get_or ws i e ≡ get_or xs i e = ap (λ (y : Slots). get_or y i e) h ∙ get_or-upto (told k) i xs e in
    let entry : ((get_or ws i e).0, ks) ≡ told k (get_or xs i e) = ap (λ js. ((get_or ws i e).0, js)) is ∙ ap (told k) here in
    ap (λ y. set ws i y) entry ∙ ap (λ (y : Slots). set y i (told k (get_or xs i e))) h ∙ set-upto (told k) i xs e lt ∙ ap (λ m. upto (told k) m xs) (sym (add-one i))

pub after_all_in : (k : Kind) (x s ws : Slots) (i : ℕ) → length s ≤ i × i ≤ length s → s ≡ x → ws ≡ upto (told k) i s → refill (length x) x ws ≡ map (told k) x
after_all_in k x s ws i e sx h =
    let at_end : i ≡ length s = omega (arith, e.0, e.1) in
    let whole : ws ≡ map (told k) x = h ∙ ap (λ m. upto (told k) m s) at_end ∙ upto-all (told k) s ∙ ap (map (told k)) sx in
    refill-whole x ws (ap length whole ∙ length-map x (told k)) ∙ whole

below-map : (n : Nexus) (k : Kind) (q : Slots) → T (below_all nexus_cmp n q) → T (below_all nexus_cmp n (map (λ e. (e.0, with_kind e.1 k)) q))
below-map n k [] h = tt
below-map n k (e ∷ q) h = both _ _ (T-left _ _ h) (below-map n k q (T-right _ _ h))

pub sorted-map : (k : Kind) (q : Slots) → T (is_sorted nexus_cmp q) → T (is_sorted nexus_cmp (map (λ e. (e.0, with_kind e.1 k)) q))
sorted-map k [] h = tt
sorted-map k (e ∷ q) h = both _ _ (below-map e.0 k q (T-left _ _ h)) (sorted-map k q (T-right _ _ h))
