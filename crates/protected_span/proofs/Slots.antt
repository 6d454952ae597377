-- What waits for one nexus after attentions that are raised one after another, and after one that all slots, or all others, are told.
use Rattle.std.proofs.Common.{◌≡◌, Bool, true, false, cond, not, ◌&&◌, ◌||◌, List, [], ◌∷◌, Option, Some, None, is_some, refl, sym, ap, ◌∙◌}
use Rattle.std.specs.Prelude.{option_map}
use Rattle.std.specs.List.{fold, list_any}
use Rattle.std.specs.FinMap.Entries.{is_some-find}
use Rattle.scsi_nexus.specs.declared.nexus.Nexus.{Nexus}
use Rattle.scsi_nexus.specs.Order.{nexus_cmp, same_nexus}
use Rattle.scsi_nexus.proofs.NexusLaws.{eq_by_cmp-nexus, same_nexus-true}
use Rattle.unit_attention.specs.declared.kind.Kind.{Kind}
use Rattle.unit_attention.specs.Pending.{with_kind}
use Rattle.unit_attention.specs.Queues.{Slots, slot_of, raised, all_raised}
use Rattle.unit_attention.proofs.SlotOf.{slot-change, change-alike, change-apart, with_kind-twice}
use Rattle.judgement.specs.UnitState.{with_slots, raised_for_others, raised_for_all}

-- attentions that are raised alike
pub all_raised-alike : (l : List (Nexus × Kind)) (q r : Slots) (m : Nexus) → slot_of q m ≡ slot_of r m → slot_of (all_raised q l) m ≡ slot_of (all_raised r l) m
all_raised-alike [] q r m h = h
all_raised-alike (a ∷ l) q r m h = all_raised-alike l (raised q a.0 a.1) (raised r a.0 a.1) m (change-alike q r a.0 m (λ ks. with_kind ks a.1) h)

or_false : (a b : Bool) → (a || b) ≡ false → (a ≡ false) × (b ≡ false)
or_false true b h = cc
or_false false b h = (refl, h)

-- attentions that are raised for others
pub all_raised-apart : (l : List (Nexus × Kind)) (q : Slots) (m : Nexus) → list_any (λ a. same_nexus m a.0) l ≡ false → slot_of (all_raised q l) m ≡ slot_of q m
all_raised-apart [] q m h = refl
all_raised-apart (a ∷ l) q m h =
    let parts = or_false _ _ h in
    all_raised-apart l (raised q a.0 a.1) m parts.1 ∙ change-apart q a.0 m (λ ks. with_kind ks a.1) parts.0

abbrev pub told : Kind → Option (List Kind) → Option (List Kind)
told k o = option_map (λ ks. with_kind ks k) o

told-twice : (k : Kind) (o : Option (List Kind)) → told k (told k o) ≡ told k o
told-twice k None = refl
told-twice k (Some ks) = ap Some (with_kind-twice ks k)

-- one nexus n is told, unless it is the sender s
abbrev one_told : (s : Nexus) → Kind → Slots → Nexus → Slots
one_told s k q n = cond (same_nexus n s) q (raised q n k)

one_slot : (s : Nexus) (k : Kind) (q : Slots) (n m : Nexus) → slot_of (one_told s k q n) m ≡ cond (same_nexus m n && not (same_nexus m s)) (told k (slot_of q m)) (slot_of q m)
one_slot s k q n m =
    let moved : same_nexus m n ≡ true → same_nexus m s ≡ same_nexus n s = λ h. ap (λ x. same_nexus x s) (same_nexus-true m n h) in
    elim (same_nexus n s) as (λ b. same_nexus n s ≡ b → slot_of (cond b q (raised q n k)) m ≡ cond (same_nexus m n && not (same_nexus m s)) (told k (slot_of q m)) (slot_of q m)) [
      | true ↦ λ e. to_sender (same_nexus m n) (same_nexus m s) (λ h. moved h ∙ e)
      | false ↦ λ e. slot-change q n m (λ ks. with_kind ks k) ∙ to_other (same_nexus m n) (same_nexus m s) (λ h. moved h ∙ e)
    ] refl
  where
    to_sender : (a b : Bool) → (a ≡ true → b ≡ true) → slot_of q m ≡ cond (a && not b) (told k (slot_of q m)) (slot_of q m)
    to_sender true b h = ap (λ x. cond (not x) (told k (slot_of q m)) (slot_of q m)) (sym (h refl))
    to_sender false b h = refl

    to_other : (a b : Bool) → (a ≡ true → b ≡ false) → cond a (told k (slot_of q m)) (slot_of q m) ≡ cond (a && not b) (told k (slot_of q m)) (slot_of q m)
    to_other true b h = ap (λ x. cond (not x) (told k (slot_of q m)) (slot_of q m)) (sym (h refl))
    to_other false b h = refl

told_over : (s : Nexus) (k : Kind) (ns : List Nexus) (q : Slots) (m : Nexus) → slot_of (fold (one_told s k) q ns) m ≡ cond (list_any (same_nexus m) ns && not (same_nexus m s)) (told k (slot_of q m)) (slot_of q m)
told_over s k [] q m = refl
told_over s k (n ∷ ns) q m =
    told_over s k ns (one_told s k q n) m
    ∙ ap (λ o. cond (list_any (same_nexus m) ns && not (same_nexus m s)) (told k o) o) (one_slot s k q n m)
    ∙ joined (same_nexus m n) (list_any (same_nexus m) ns) (same_nexus m s) (slot_of q m)
  where
    joined : (a b c : Bool) (o : Option (List Kind)) → (let x : Option (List Kind) = cond (a && not c) (told k o) o in cond (b && not c) (told k x) x) ≡ cond ((a || b) && not c) (told k o) o
    joined true true true o = refl
    joined true true false o = told-twice k o
    joined true false true o = refl
    joined true false false o = refl
    joined false true true o = refl
    joined false true false o = refl
    joined false false c o = refl

has-with_slots : (q : Slots) (m : Nexus) → list_any (same_nexus m) (with_slots q) ≡ is_some (slot_of q m)
has-with_slots q m = sym (is_some-find nexus_cmp m q ∙ (λ i. list_any (λ n. eq_by_cmp-nexus m n i) (with_slots q)))

told_if : (k : Kind) (b : Bool) (o : Option (List Kind)) → cond (is_some o && not b) (told k o) o ≡ cond b o (told k o)
told_if k true None = refl
told_if k false None = refl
told_if k true (Some ks) = refl
told_if k false (Some ks) = refl

-- every slot but the sender's is told
pub slot-raised_for_others : (q : Slots) (s m : Nexus) (k : Kind) → slot_of (raised_for_others q s k) m ≡ cond (same_nexus m s) (slot_of q m) (told k (slot_of q m))
slot-raised_for_others q s m k =
    told_over s k (with_slots q) q m ∙ ap (λ b. cond (b && not (same_nexus m s)) (told k (slot_of q m)) (slot_of q m)) (has-with_slots q m) ∙ told_if k (same_nexus m s) (slot_of q m)

pub raised_for_others-alike : (q r : Slots) (s m : Nexus) (k : Kind) → slot_of q m ≡ slot_of r m → slot_of (raised_for_others q s k) m ≡ slot_of (raised_for_others r s k) m
raised_for_others-alike q r s m k h = slot-raised_for_others q s m k ∙ ap (λ o. cond (same_nexus m s) o (told k o)) h ∙ sym (slot-raised_for_others r s m k)

-- every slot is told
all_over : (k : Kind) (ns : List Nexus) (q : Slots) (m : Nexus) → slot_of (fold (λ slots n. raised slots n k) q ns) m ≡ cond (list_any (same_nexus m) ns) (told k (slot_of q m)) (slot_of q m)
all_over k [] q m = refl
all_over k (n ∷ ns) q m =
    all_over k ns (raised q n k) m
    ∙ ap (λ o. cond (list_any (same_nexus m) ns) (told k o) o) (slot-change q n m (λ ks. with_kind ks k))
    ∙ joined (same_nexus m n) (list_any (same_nexus m) ns) (slot_of q m)
  where
    joined : (a b : Bool) (o : Option (List Kind)) → (let x : Option (List Kind) = cond a (told k o) o in cond b (told k x) x) ≡ cond (a || b) (told k o) o
    joined true true o = told-twice k o
    joined true false o = refl
    joined false true o = refl
    joined false false o = refl

told_some : (k : Kind) (o : Option (List Kind)) → cond (is_some o) (told k o) o ≡ told k o
told_some k None = refl
told_some k (Some ks) = refl

pub slot-raised_for_all : (q : Slots) (m : Nexus) (k : Kind) → slot_of (raised_for_all q k) m ≡ told k (slot_of q m)
slot-raised_for_all q m k = all_over k (with_slots q) q m ∙ ap (λ b. cond b (told k (slot_of q m)) (slot_of q m)) (has-with_slots q m) ∙ told_some k (slot_of q m)

pub raised_for_all-alike : (q r : Slots) (m : Nexus) (k : Kind) → slot_of q m ≡ slot_of r m → slot_of (raised_for_all q k) m ≡ slot_of (raised_for_all r k) m
raised_for_all-alike q r m k h = slot-raised_for_all q m k ∙ ap (told k) h ∙ sym (slot-raised_for_all r m k)
