-- What waits for one nexus after each change of the slots, and who has a slot then.
use Rattle.std.proofs.Common.{◌≡◌, T, Bool, true, false, cond, ◌||◌, List, [], ◌∷◌, ◌++◌, length, Option, Some, None, is_some, refl, sym, ap, ◌∙◌, arith}
use Rattle.std.specs.Prelude.{◌+◌, unwrap_or, option_map}
use Rattle.std.specs.Ordering.{eq_by_cmp}
use Rattle.std.specs.FinMap.{is_sorted, put}
use Rattle.std.specs.FinMap.Entries.{find-put, length-put}
use Rattle.std.proofs.lemmas.List.{length-map}
use Rattle.std.proofs.lemmas.Grind.{common_steps}
use Rattle.scsi_nexus.specs.declared.nexus.Nexus.{Nexus}
use Rattle.scsi_nexus.specs.Order.{nexus_cmp, same_nexus}
use Rattle.scsi_nexus.proofs.NexusLaws.{nexus_total, eq_by_cmp-nexus, same_nexus-true}
use Rattle.unit_attention.specs.declared.kind.Kind.{Kind}
use Rattle.unit_attention.specs.declared.kind.Kind.TheVariants.{PowerOn, BusDeviceReset, NexusLoss, MediumChanged, ModeParametersChanged, LogParametersChanged, ReservationsPreempted, ReservationsReleased, RegistrationsPreempted}
use Rattle.unit_attention.specs.Pending.{is_pending, with_kind, without_kind}
use Rattle.unit_attention.proofs.SlotLemmas.{sorted-change, sorted-contact, sorted-map}
use Rattle.unit_attention.specs.Queues.{Slots, slot_of, has_slot, with_change, contacted, raised, cleared, lost, was_reset}

-- what is put for n is what waits for n, and for nobody else
pub slot-put : (q : Slots) (n m : Nexus) (ks : List Kind) → slot_of (put nexus_cmp n ks q) m ≡ cond (same_nexus m n) (Some ks) (slot_of q m)
slot-put q n m ks = find-put nexus_cmp nexus_total m n ks q ∙ ap (λ b. cond b (Some ks) (slot_of q m)) (eq_by_cmp-nexus m n)

none_changes : (b : Bool) (f : List Kind → List Kind) (o : Option (List Kind)) → (b ≡ true → o ≡ None) → o ≡ cond b (option_map f o) o
none_changes false f o h = refl
none_changes true f o h = h refl ∙ sym (ap (option_map f) (h refl))

some_changes : (b : Bool) (f : List Kind → List Kind) (ks : List Kind) (o : Option (List Kind)) → (b ≡ true → o ≡ Some ks) → cond b (Some (f ks)) o ≡ cond b (option_map f o) o
some_changes false f ks o h = refl
some_changes true f ks o h = sym (ap (option_map f) (h refl))

-- a change of what waits for n changes that, and what waits for nobody else
pub slot-change : (q : Slots) (n m : Nexus) (f : List Kind → List Kind) → slot_of (with_change q n f) m ≡ cond (same_nexus m n) (option_map f (slot_of q m)) (slot_of q m)
slot-change q n m f =
    let at : same_nexus m n ≡ true → slot_of q m ≡ slot_of q n = λ h. ap (slot_of q) (same_nexus-true m n h) in
    elim (slot_of q n) as (λ o. slot_of q n ≡ o → slot_of (elim o [ None ↦ q | Some ks ↦ put nexus_cmp n (f ks) q ]) m ≡ cond (same_nexus m n) (option_map f (slot_of q m)) (slot_of q m)) [
      | None ↦ λ e. none_changes (same_nexus m n) f (slot_of q m) (λ h. at h ∙ e)
      | Some ks ↦ λ e. slot-put q n m (f ks) ∙ some_changes (same_nexus m n) f ks (slot_of q m) (λ h. at h ∙ e)
    ] refl

-- where the same waits for m, a change for n leaves the same waiting for m
pub change-alike : (q r : Slots) (n m : Nexus) (f : List Kind → List Kind) → slot_of q m ≡ slot_of r m → slot_of (with_change q n f) m ≡ slot_of (with_change r n f) m
change-alike q r n m f h = slot-change q n m f ∙ ap (λ o. cond (same_nexus m n) (option_map f o) o) h ∙ sym (slot-change r n m f)

-- a change for n leaves what waits for another
pub change-apart : (q : Slots) (n m : Nexus) (f : List Kind → List Kind) → same_nexus m n ≡ false → slot_of (with_change q n f) m ≡ slot_of q m
change-apart q n m f h = slot-change q n m f ∙ ap (λ b. cond b (option_map f (slot_of q m)) (slot_of q m)) h

-- a kind that is raised for n
pub slot-raised : (q : Slots) (n m : Nexus) (kind : Kind) → slot_of (raised q n kind) m ≡ cond (same_nexus m n) (option_map (λ ks. with_kind ks kind) (slot_of q m)) (slot_of q m)
slot-raised q n m kind = slot-change q n m (λ ks. with_kind ks kind)

-- a kind that is cleared for n
pub slot-cleared : (q : Slots) (n m : Nexus) (kind : Kind) → slot_of (cleared q n kind) m ≡ cond (same_nexus m n) (option_map (λ ks. without_kind ks kind) (slot_of q m)) (slot_of q m)
slot-cleared q n m kind = slot-change q n m (λ ks. without_kind ks kind)

-- a loss of n
pub slot-lost : (q : Slots) (n m : Nexus) → slot_of (lost q n) m ≡ cond (same_nexus m n) (option_map (λ ks. with_kind ks NexusLoss) (slot_of q m)) (slot_of q m)
slot-lost q n m = slot-raised q n m NexusLoss

some_is : (o : Option (List Kind)) → is_some o ≡ true → o ≡ Some (unwrap_or o (PowerOn ∷ []))
some_is None h = cc
some_is (Some ks) h = refl

none_is : (o : Option (List Kind)) → is_some o ≡ false → unwrap_or o (PowerOn ∷ []) ≡ PowerOn ∷ []
none_is None h = refl
none_is (Some ks) h = cc

contact_some : (b : Bool) (o : Option (List Kind)) → (b ≡ true → o ≡ Some (unwrap_or o (PowerOn ∷ []))) → o ≡ cond b (Some (unwrap_or o (PowerOn ∷ []))) o
contact_some true o h = h refl
contact_some false o h = refl

contact_none : (b : Bool) (o : Option (List Kind)) → (b ≡ true → unwrap_or o (PowerOn ∷ []) ≡ PowerOn ∷ []) → cond b (Some (PowerOn ∷ [])) o ≡ cond b (Some (unwrap_or o (PowerOn ∷ []))) o
contact_none true o h = ap Some (sym (h refl))
contact_none false o h = refl

-- a contact of n: what waited for it, and where it had no slot the power on condition
pub slot-contacted : (q : Slots) (n m : Nexus) → slot_of (contacted q n) m ≡ cond (same_nexus m n) (Some (unwrap_or (slot_of q m) (PowerOn ∷ []))) (slot_of q m)
slot-contacted q n m =
    let at : same_nexus m n ≡ true → slot_of q m ≡ slot_of q n = λ h. ap (slot_of q) (same_nexus-true m n h) in
    elim (has_slot q n) as (λ b. has_slot q n ≡ b → slot_of (cond b q (put nexus_cmp n (PowerOn ∷ []) q)) m ≡ cond (same_nexus m n) (Some (unwrap_or (slot_of q m) (PowerOn ∷ []))) (slot_of q m)) [
      | true ↦ λ e. contact_some (same_nexus m n) (slot_of q m) (λ h. some_is (slot_of q m) (ap is_some (at h) ∙ e))
      | false ↦ λ e. slot-put q n m (PowerOn ∷ []) ∙ contact_none (same_nexus m n) (slot_of q m) (λ h. none_is (slot_of q m) (ap is_some (at h) ∙ e))
    ] refl

-- where the same waits for m, a contact of n leaves the same waiting for m
pub contact-alike : (q r : Slots) (n m : Nexus) → slot_of q m ≡ slot_of r m → slot_of (contacted q n) m ≡ slot_of (contacted r n) m
contact-alike q r n m h = slot-contacted q n m ∙ ap (λ o. cond (same_nexus m n) (Some (unwrap_or o (PowerOn ∷ []))) o) h ∙ sym (slot-contacted r n m)

-- a contact of n leaves what waits for another
pub contact-apart : (q : Slots) (n m : Nexus) → same_nexus m n ≡ false → slot_of (contacted q n) m ≡ slot_of q m
contact-apart q n m h = slot-contacted q n m ∙ ap (λ b. cond b (Some (unwrap_or (slot_of q m) (PowerOn ∷ []))) (slot_of q m)) h

-- a reset is told to each slot
pub slot-reset : (q : Slots) (m : Nexus) → slot_of (was_reset q) m ≡ option_map (λ ks. with_kind ks BusDeviceReset) (slot_of q m)
slot-reset [] m = refl
slot-reset (e ∷ q) m =
    let rest = slot-reset q m in
    elim (eq_by_cmp nexus_cmp m e.0) as (λ b. cond b (Some (with_kind e.1 BusDeviceReset)) (slot_of (was_reset q) m) ≡ option_map (λ ks. with_kind ks BusDeviceReset) (cond b (Some e.1) (slot_of q m))) [
      | true ↦ refl
      | false ↦ rest
    ]

-- where the same waits for m, a reset leaves the same waiting for m
pub reset-alike : (q r : Slots) (m : Nexus) → slot_of q m ≡ slot_of r m → slot_of (was_reset q) m ≡ slot_of (was_reset r) m
reset-alike q r m h = slot-reset q m ∙ ap (option_map (λ ks. with_kind ks BusDeviceReset)) h ∙ sym (slot-reset r m)

is_some-map : (f : List Kind → List Kind) (o : Option (List Kind)) → is_some (option_map f o) ≡ is_some o
is_some-map f None = refl
is_some-map f (Some ks) = refl

is_some-change : (b : Bool) (f : List Kind → List Kind) (o : Option (List Kind)) → is_some (cond b (option_map f o) o) ≡ is_some o
is_some-change true f o = is_some-map f o
is_some-change false f o = refl

-- a change gives and takes no slot
pub has_slot-change : (q : Slots) (n m : Nexus) (f : List Kind → List Kind) → has_slot (with_change q n f) m ≡ has_slot q m
has_slot-change q n m f = ap is_some (slot-change q n m f) ∙ is_some-change (same_nexus m n) f (slot_of q m)

-- nor does what is raised for a nexus
pub has_slot-raised : (q : Slots) (n m : Nexus) (kind : Kind) → has_slot (raised q n kind) m ≡ has_slot q m
has_slot-raised q n m kind = has_slot-change q n m (λ ks. with_kind ks kind)

-- nor what is cleared
pub has_slot-cleared : (q : Slots) (n m : Nexus) (kind : Kind) → has_slot (cleared q n kind) m ≡ has_slot q m
has_slot-cleared q n m kind = has_slot-change q n m (λ ks. without_kind ks kind)

-- nor a loss
pub has_slot-lost : (q : Slots) (n m : Nexus) → has_slot (lost q n) m ≡ has_slot q m
has_slot-lost q n m = has_slot-raised q n m NexusLoss

-- nor a reset
pub has_slot-reset : (q : Slots) (m : Nexus) → has_slot (was_reset q) m ≡ has_slot q m
has_slot-reset q m = ap is_some (slot-reset q m) ∙ is_some-map (λ ks. with_kind ks BusDeviceReset) (slot_of q m)

is_some-contact : (b : Bool) (o : Option (List Kind)) → is_some (cond b (Some (unwrap_or o (PowerOn ∷ []))) o) ≡ (b || is_some o)
is_some-contact true o = refl
is_some-contact false o = refl

-- a contact gives n a slot, and takes nobody's away
pub has_slot-contacted : (q : Slots) (n m : Nexus) → has_slot (contacted q n) m ≡ (same_nexus m n || has_slot q m)
has_slot-contacted q n m = ap is_some (slot-contacted q n m) ∙ is_some-contact (same_nexus m n) (slot_of q m)

length-change_at : (q : Slots) (n : Nexus) (f : List Kind → List Kind) (o : Option (List Kind)) → T (is_sorted nexus_cmp q) → slot_of q n ≡ o → length {A = Nexus × List Kind} (elim o [ None ↦ q | Some ks ↦ put nexus_cmp n (f ks) q ]) ≡ length q
length-change_at q n f None h is = refl
length-change_at q n f (Some ks) h is = length-put nexus_cmp nexus_total n (f ks) q h ∙ ap (λ b. cond b (length q) (length q + 1)) (ap is_some is)

-- a change keeps the number of slots
pub length-change : (q : Slots) (n : Nexus) (f : List Kind → List Kind) → T (is_sorted nexus_cmp q) → length (with_change q n f) ≡ length q
length-change q n f h = length-change_at q n f (slot_of q n) h refl

-- so does what is raised for a nexus
pub length-raised : (q : Slots) (n : Nexus) (kind : Kind) → T (is_sorted nexus_cmp q) → length (raised q n kind) ≡ length q
length-raised q n kind h = length-change q n (λ ks. with_kind ks kind) h

-- and what is cleared
pub length-cleared : (q : Slots) (n : Nexus) (kind : Kind) → T (is_sorted nexus_cmp q) → length (cleared q n kind) ≡ length q
length-cleared q n kind h = length-change q n (λ ks. without_kind ks kind) h

-- and a loss
pub length-lost : (q : Slots) (n : Nexus) → T (is_sorted nexus_cmp q) → length (lost q n) ≡ length q
length-lost q n h = length-raised q n NexusLoss h

-- and a reset
pub length-reset : (q : Slots) → length (was_reset q) ≡ length q
length-reset q = length-map q (λ e. (e.0, with_kind e.1 BusDeviceReset))

length-contact_at : (q : Slots) (n : Nexus) (b : Bool) → T (is_sorted nexus_cmp q) → has_slot q n ≡ b → length (cond b q (put nexus_cmp n (PowerOn ∷ []) q)) ≡ cond b (length q) (length q + 1)
length-contact_at q n true h is = refl
length-contact_at q n false h is = length-put nexus_cmp nexus_total n (PowerOn ∷ []) q h ∙ ap (λ b. cond b (length q) (length q + 1)) is

-- a contact of a nexus without a slot makes one slot more
pub length-contacted : (q : Slots) (n : Nexus) → T (is_sorted nexus_cmp q) → length (contacted q n) ≡ cond (has_slot q n) (length q) (length q + 1)
length-contacted q n h = length-contact_at q n (has_slot q n) h refl

-- slots that ascend go on ascending after a change
pub sorted-raised : (q : Slots) (n : Nexus) (kind : Kind) → T (is_sorted nexus_cmp q) → T (is_sorted nexus_cmp (raised q n kind))
sorted-raised q n kind h = sorted-change q n (λ ks. with_kind ks kind) h

pub sorted-cleared : (q : Slots) (n : Nexus) (kind : Kind) → T (is_sorted nexus_cmp q) → T (is_sorted nexus_cmp (cleared q n kind))
sorted-cleared q n kind h = sorted-change q n (λ ks. without_kind ks kind) h

pub sorted-lost : (q : Slots) (n : Nexus) → T (is_sorted nexus_cmp q) → T (is_sorted nexus_cmp (lost q n))
sorted-lost q n h = sorted-raised q n NexusLoss h

-- after a reset
pub sorted-reset : (q : Slots) → T (is_sorted nexus_cmp q) → T (is_sorted nexus_cmp (was_reset q))
sorted-reset q h = sorted-map BusDeviceReset q h

sorted-contact_at : (q : Slots) (n : Nexus) (b : Bool) → T (is_sorted nexus_cmp q) → T (is_sorted nexus_cmp (cond b q (put nexus_cmp n (PowerOn ∷ []) q)))
sorted-contact_at q n true h = h
sorted-contact_at q n false h = sorted-contact q n h

-- and after a contact
pub sorted-contacted : (q : Slots) (n : Nexus) → T (is_sorted nexus_cmp q) → T (is_sorted nexus_cmp (contacted q n))
sorted-contacted q n h = sorted-contact_at q n (has_slot q n) h

-- what was raised last waits
pending-push : (ks : List Kind) (k : Kind) → is_pending (ks ++ k ∷ []) k ≡ true
pending-push [] k = grind (arith, common_steps)
pending-push (x ∷ ks) k = grind (arith, common_steps, pending-push ks k)

added_twice : (b : Bool) (ks : List Kind) (k : Kind) → is_pending ks k ≡ b → (let js : List Kind = cond b ks (ks ++ k ∷ []) in cond (is_pending js k) js (js ++ k ∷ [])) ≡ cond b ks (ks ++ k ∷ [])
added_twice true ks k e = ap (λ b. cond b ks (ks ++ k ∷ [])) e
added_twice false ks k e = ap (λ b. cond b (ks ++ k ∷ []) ((ks ++ k ∷ []) ++ k ∷ [])) (pending-push ks k)

-- a kind that is raised twice waits as if it was raised once
pub with_kind-twice : (ks : List Kind) (k : Kind) → with_kind (with_kind ks k) k ≡ with_kind ks k
with_kind-twice ks PowerOn = refl
with_kind-twice ks BusDeviceReset = added_twice (is_pending ks BusDeviceReset) ks BusDeviceReset refl
with_kind-twice ks NexusLoss = added_twice (is_pending ks NexusLoss) ks NexusLoss refl
with_kind-twice ks MediumChanged = added_twice (is_pending ks MediumChanged) ks MediumChanged refl
with_kind-twice ks ModeParametersChanged = added_twice (is_pending ks ModeParametersChanged) ks ModeParametersChanged refl
with_kind-twice ks LogParametersChanged = added_twice (is_pending ks LogParametersChanged) ks LogParametersChanged refl
with_kind-twice ks ReservationsPreempted = added_twice (is_pending ks ReservationsPreempted) ks ReservationsPreempted refl
with_kind-twice ks ReservationsReleased = added_twice (is_pending ks ReservationsReleased) ks ReservationsReleased refl
with_kind-twice ks RegistrationsPreempted = added_twice (is_pending ks RegistrationsPreempted) ks RegistrationsPreempted refl
