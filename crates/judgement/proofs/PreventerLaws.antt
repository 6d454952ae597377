-- Each nexus that prevents removal has a slot, and stands once; so there are no more of them than slots.
use Rattle.std.proofs.Common.{◌≡◌, ◌≤◌, suc, ◌+◌, Bool, true, false, not, cond, ◌&&◌, ◌||◌, List, [], ◌∷◌, ◌++◌, length, Some, is_some, Result, Ok, Err, refl, sym, ap, ◌∙◌, subst, arith}
use Rattle.std.specs.Prelude.{OnOk, OnErr, filter, nat_lt, if◌then◌else◌}
use Rattle.std.specs.List.{fold, list_all}
use Rattle.std.specs.Ordering.{eq_by_cmp}
use Rattle.std.proofs.lemmas.Bool.{lt-ltb}
use Rattle.std.proofs.lemmas.List.{length-append}
use Rattle.std.proofs.lemmas.List.Folds.{list_any-append}
use Rattle.scsi_nexus.specs.declared.nexus.Nexus.{Nexus}
use Rattle.scsi_nexus.specs.Order.{nexus_cmp, same_nexus}
use Rattle.scsi_nexus.proofs.NexusLaws.{eq_by_cmp-nexus, same_nexus-true, same_nexus-refl, same_nexus-sym}
use Rattle.unit_attention.specs.declared.kind.Kind.{Kind}
use Rattle.unit_attention.specs.Queues.{Slots, slot_of, has_slot, slot_limit, contacted, raised, all_raised, cleared, lost}
use Rattle.unit_attention.proofs.SlotOf.{has_slot-contacted, has_slot-raised, has_slot-cleared, has_slot-lost}
use Rattle.permit_tables.specs.declared.pr_fault.PrFault.{PrFault}
use Rattle.pr_core.specs.Targets.{is_among}
use Rattle.judgement.specs.UnitState.{are_distinct, HaveSlots, with_slots, raised_for_all, raised_for_others}

-- both parts of a test that holds
both : (a b : Bool) → (a && b) ≡ true → (a ≡ true) × (b ≡ true)
both true b h = (refl, h)
both false b h = absurd cc

neither : (a b : Bool) → (a || b) ≡ false → (a ≡ false) × (b ≡ false)
neither true b h = absurd cc
neither false b h = (refl, h)

not_true : (b : Bool) → not b ≡ true → b ≡ false
not_true true h = absurd cc
not_true false h = refl

-- slots that no nexus loses
pub all_keep : (p r : Nexus → Bool) → ((m : Nexus) → p m ≡ true → r m ≡ true) → (ps : List Nexus) → list_all p ps ≡ true → list_all r ps ≡ true
all_keep p r keeps [] h = refl
all_keep p r keeps (x ∷ xs) h =
    let parts = both (p x) (list_all p xs) h in
    ap (λ b. b && list_all r xs) (keeps x parts.0) ∙ all_keep p r keeps xs parts.1

-- the slots of others that are told keep theirs
all_raised-has : (l : List (Nexus × Kind)) (q : Slots) (m : Nexus) → has_slot (all_raised q l) m ≡ has_slot q m
all_raised-has [] q m = refl
all_raised-has (a ∷ l) q m = all_raised-has l (raised q a.0 a.1) m ∙ has_slot-raised q a.0 m a.1

told-has : (kind : Kind) (l : List Nexus) (q : Slots) (m : Nexus) → has_slot (fold (λ slots n. raised slots n kind) q l) m ≡ has_slot q m
told-has kind [] q m = refl
told-has kind (n ∷ l) q m = told-has kind l (raised q n kind) m ∙ has_slot-raised q n m kind

unless-has : (b : Bool) (q : Slots) (n m : Nexus) (kind : Kind) → has_slot (if b then q else raised q n kind) m ≡ has_slot q m
unless-has true q n m kind = refl
unless-has false q n m kind = has_slot-raised q n m kind

others-has : (sender : Nexus) (kind : Kind) (l : List Nexus) (q : Slots) (m : Nexus)
    → has_slot (fold (λ slots n. if same_nexus n sender then slots else raised slots n kind) q l) m ≡ has_slot q m
others-has sender kind [] q m = refl
others-has sender kind (n ∷ l) q m = others-has sender kind l (if same_nexus n sender then q else raised q n kind) m ∙ unless-has (same_nexus n sender) q n m kind

or_right : (a b : Bool) → b ≡ true → (a || b) ≡ true
or_right true b h = refl
or_right false b h = h

-- the same preventers after each change of the slots
kept_by_same : (q r : Slots) (ps : List Nexus) → ((m : Nexus) → has_slot r m ≡ has_slot q m) → HaveSlots q ps → HaveSlots r ps
kept_by_same q r ps same h = record { slots = all_keep (has_slot q) (has_slot r) (λ m is. same m ∙ is) ps h.slots; once = h.once }

pub contacted_have : (q : Slots) (n : Nexus) (ps : List Nexus) → HaveSlots q ps → HaveSlots (contacted q n) ps
contacted_have q n ps h = record {
  slots = all_keep (has_slot q) (has_slot (contacted q n)) (λ m is. has_slot-contacted q n m ∙ or_right (same_nexus m n) (has_slot q m) is) ps h.slots;
  once = h.once;
}

pub cleared_have : (q : Slots) (n : Nexus) (kind : Kind) (ps : List Nexus) → HaveSlots q ps → HaveSlots (cleared q n kind) ps
cleared_have q n kind ps h = kept_by_same q (cleared q n kind) ps (λ m. has_slot-cleared q n m kind) h

pub lost_have : (q : Slots) (n : Nexus) (ps : List Nexus) → HaveSlots q ps → HaveSlots (lost q n) ps
lost_have q n ps h = kept_by_same q (lost q n) ps (λ m. has_slot-lost q n m) h

pub all_raised_have : (q : Slots) (l : List (Nexus × Kind)) (ps : List Nexus) → HaveSlots q ps → HaveSlots (all_raised q l) ps
all_raised_have q l ps h = kept_by_same q (all_raised q l) ps (all_raised-has l q) h

-- of a command that is carried out, or refused
pub told_have : (r : Result (Unit {0}) PrFault) (q after : Slots) (l : List (Nexus × Kind)) (ps : List Nexus) → OnOk r (after ≡ all_raised q l) → OnErr r (after ≡ q) → HaveSlots q ps → HaveSlots after ps
told_have (Ok u) q after l ps told silent h = subst (λ (s : Slots). HaveSlots s ps) (sym told) (all_raised_have q l ps h)
told_have (Err e) q after l ps told silent h = subst (λ (s : Slots). HaveSlots s ps) (sym silent) h

pub all_told_have : (q : Slots) (kind : Kind) (ps : List Nexus) → HaveSlots q ps → HaveSlots (raised_for_all q kind) ps
all_told_have q kind ps h = kept_by_same q (raised_for_all q kind) ps (told-has kind (with_slots q) q) h

pub others_told_have : (q : Slots) (sender : Nexus) (kind : Kind) (ps : List Nexus) → HaveSlots q ps → HaveSlots (raised_for_others q sender kind) ps
others_told_have q sender kind ps h = kept_by_same q (raised_for_others q sender kind) ps (others-has sender kind (with_slots q) q) h

-- fewer preventers
all-filter : (p f : Nexus → Bool) (ps : List Nexus) → list_all p ps ≡ true → list_all p (filter f ps) ≡ true
all-filter p f [] h = refl
all-filter p f (x ∷ xs) h =
    let parts = both (p x) (list_all p xs) h in
    let rest = all-filter p f xs parts.1 in
    elim (f x) as (λ (b : Bool). list_all p (cond b (x ∷ filter f xs) (filter f xs)) ≡ true) [
      | true ↦ ap (λ b. b && list_all p (filter f xs)) parts.0 ∙ rest
      | false ↦ rest
    ]

among-filter : (m : Nexus) (f : Nexus → Bool) (ps : List Nexus) → is_among m ps ≡ false → is_among m (filter f ps) ≡ false
among-filter m f [] h = refl
among-filter m f (x ∷ xs) h =
    let parts = neither (same_nexus m x) (is_among m xs) h in
    let rest = among-filter m f xs parts.1 in
    elim (f x) as (λ (b : Bool). is_among m (cond b (x ∷ filter f xs) (filter f xs)) ≡ false) [
      | true ↦ ap (λ b. b || is_among m (filter f xs)) parts.0 ∙ rest
      | false ↦ rest
    ]

distinct-filter : (f : Nexus → Bool) (ps : List Nexus) → are_distinct ps ≡ true → are_distinct (filter f ps) ≡ true
distinct-filter f [] h = refl
distinct-filter f (x ∷ xs) h =
    let parts = both (not (is_among x xs)) (are_distinct xs) h in
    let rest = distinct-filter f xs parts.1 in
    elim (f x) as (λ (b : Bool). are_distinct (cond b (x ∷ filter f xs) (filter f xs)) ≡ true) [
      | true ↦ ap (λ b. not b && are_distinct (filter f xs)) (among-filter x f xs (not_true (is_among x xs) parts.0)) ∙ rest
      | false ↦ rest
    ]

pub filter_have : (q : Slots) (f : Nexus → Bool) (ps : List Nexus) → HaveSlots q ps → HaveSlots q (filter f ps)
filter_have q f ps h = record { slots = all-filter (has_slot q) f ps h.slots; once = distinct-filter f ps h.once }

-- one preventer more
all-push : (p : Nexus → Bool) (n : Nexus) (ps : List Nexus) → list_all p ps ≡ true → p n ≡ true → list_all p (ps ++ n ∷ []) ≡ true
all-push p n [] h is = ap (λ b. b && true) is
all-push p n (x ∷ xs) h is =
    let parts = both (p x) (list_all p xs) h in
    ap (λ b. b && list_all p (xs ++ n ∷ [])) parts.0 ∙ all-push p n xs parts.1 is

or_false : (b : Bool) → (b || false) ≡ b
or_false true = refl
or_false false = refl

distinct-push : (n : Nexus) (ps : List Nexus) → are_distinct ps ≡ true → is_among n ps ≡ false → are_distinct (ps ++ n ∷ []) ≡ true
distinct-push n [] h apart = refl
distinct-push n (x ∷ xs) h apart =
    let parts = both (not (is_among x xs)) (are_distinct xs) h in
    let others = neither (same_nexus n x) (is_among n xs) apart in
    let there : is_among x (xs ++ n ∷ []) ≡ false = list_any-append (same_nexus x) xs (n ∷ []) ∙ ap (λ b. b || (same_nexus x n || false)) (not_true (is_among x xs) parts.0) ∙ or_false (same_nexus x n) ∙ same_nexus-sym x n ∙ others.0 in
    ap (λ b. not b && are_distinct (xs ++ n ∷ [])) there ∙ distinct-push n xs parts.1 others.1

pub added_have : (q : Slots) (n : Nexus) (ps : List Nexus) → has_slot q n ≡ true → HaveSlots q ps → HaveSlots q (if is_among n ps then ps else ps ++ n ∷ [])
added_have q n ps is h =
    elim (is_among n ps) as (λ (b : Bool). is_among n ps ≡ b → HaveSlots q (if b then ps else ps ++ n ∷ [])) [
      | true ↦ λ e. h
      | false ↦ λ e. record { slots = all-push (has_slot q) n ps h.slots is; once = distinct-push n ps h.once e }
    ] refl

-- no more preventers than slots
filter-absent : (x : Nexus) (ps : List Nexus) → is_among x ps ≡ false → length (filter (λ p. not (same_nexus p x)) ps) ≡ length ps
filter-absent x [] h = refl
filter-absent x (p ∷ ps) h =
    let parts = neither (same_nexus x p) (is_among x ps) h in
    ap (λ (b : Bool). length (cond (not b) (p ∷ filter (λ m. not (same_nexus m x)) ps) (filter (λ m. not (same_nexus m x)) ps))) (same_nexus-sym p x ∙ parts.0)
    ∙ ap suc (filter-absent x ps parts.1)

one_less : (x : Nexus) (ps : List Nexus) → are_distinct ps ≡ true → length ps ≤ length (filter (λ p. not (same_nexus p x)) ps) + 1
one_less x [] h = omega arith
one_less x (p ∷ ps) h =
    let parts = both (not (is_among p ps)) (are_distinct ps) h in
    let rest = filter (λ m. not (same_nexus m x)) ps in
    elim (same_nexus p x) as (λ (b : Bool). same_nexus p x ≡ b → length (p ∷ ps) ≤ length (cond (not b) (p ∷ rest) rest) + 1) [
      | true ↦ λ e. omega (arith, filter-absent x ps (ap (λ y. is_among y ps) (sym (same_nexus-true p x e)) ∙ not_true (is_among p ps) parts.0))
      | false ↦ λ e. omega (arith, one_less x ps parts.1)
    ] refl

-- a nexus that isn't the first one has its slot among the others
later : (e : Nexus × List Kind) (q : Slots) (ps : List Nexus) → list_all (has_slot (e ∷ q)) ps ≡ true → list_all (has_slot q) (filter (λ p. not (same_nexus p e.0)) ps) ≡ true
later e q [] h = refl
later e q (p ∷ ps) h =
    let parts = both (has_slot (e ∷ q) p) (list_all (has_slot (e ∷ q)) ps) h in
    let rest = later e q ps parts.1 in
    let others = filter (λ m. not (same_nexus m e.0)) ps in
    elim (same_nexus p e.0) as (λ (b : Bool). eq_by_cmp nexus_cmp p e.0 ≡ b → list_all (has_slot q) (cond (not b) (p ∷ others) others) ≡ true) [
      | true ↦ λ is. rest
      | false ↦ λ is. ap (λ b. b && list_all (has_slot q) others) (sym (ap (λ b. is_some (cond b (Some e.1) (slot_of q p))) is) ∙ parts.0) ∙ rest
    ] (eq_by_cmp-nexus p e.0)

pub no_more : (q : Slots) (ps : List Nexus) → are_distinct ps ≡ true → list_all (has_slot q) ps ≡ true → length ps ≤ length q
no_more [] [] once has = omega arith
no_more [] (p ∷ ps) once has = absurd cc
no_more (e ∷ q) ps once has =
    let others = filter (λ p. not (same_nexus p e.0)) ps in
    omega (arith, no_more q others (distinct-filter (λ p. not (same_nexus p e.0)) ps once) (later e q ps has), one_less e.0 ps once)

-- so there is room for one that has a slot
pub room_for : (q : Slots) (n : Nexus) (ps : List Nexus) → HaveSlots q ps → has_slot q n ≡ true → length q ≤ slot_limit → (is_among n ps || nat_lt (length ps) 128) ≡ true
room_for q n ps h is few =
    elim (is_among n ps) as (λ (b : Bool). is_among n ps ≡ b → (b || nat_lt (length ps) 128) ≡ true) [
      | true ↦ λ e. refl
      | false ↦ λ e.
          let more = no_more q (ps ++ n ∷ []) (distinct-push n ps h.once e) (all-push (has_slot q) n ps h.slots is) in
          lt-ltb (length ps) 128 (omega (arith, simp length-append at more, few))
    ] refl

-- who made contact has a slot
pub contacted_has : (q : Slots) (n : Nexus) → has_slot (contacted q n) n ≡ true
contacted_has q n = has_slot-contacted q n n ∙ ap (λ b. b || has_slot q n) (same_nexus-refl n)
