-- What waits for a nexus once it makes contact.
use Rattle.std.proofs.Common.{◌≡◌, Bool, true, false, cond, List, [], ◌∷◌, Option, Some, None, is_some, refl, sym, ap, ◌∙◌}
use Rattle.std.specs.Prelude.{option_and_then}
use Rattle.std.specs.FinMap.{find, put}
use Rattle.std.specs.FinMap.Entries.{find-put}
use Rattle.scsi_nexus.specs.declared.nexus.Nexus.{Nexus}
use Rattle.scsi_nexus.specs.Order.{nexus_cmp}
use Rattle.scsi_nexus.proofs.NexusLaws.{nexus_total, eq_by_cmp-nexus, same_nexus-refl}
use Rattle.unit_attention.specs.declared.kind.Kind.{Kind}
use Rattle.unit_attention.specs.declared.kind.Kind.TheVariants.{PowerOn}
use Rattle.unit_attention.specs.Pending.{oldest_reset, oldest_other}
use Rattle.unit_attention.specs.Queues.{Slots, slot_of, has_slot, contacted, first_reset_of, first_other_of}

-- a nexus that has a slot keeps what waits there
slot_of-known : (q : Slots) (n : Nexus) → has_slot q n ≡ true → slot_of (contacted q n) n ≡ slot_of q n
slot_of-known q n h = ap (λ (b : Bool). slot_of (cond b q (put nexus_cmp n (PowerOn ∷ []) q)) n) h

-- another gets one where the power on condition waits
slot_of-new : (q : Slots) (n : Nexus) → has_slot q n ≡ false → slot_of (contacted q n) n ≡ Some (PowerOn ∷ [])
slot_of-new q n h =
    ap (λ (b : Bool). slot_of (cond b q (put nexus_cmp n (PowerOn ∷ []) q)) n) h ∙ find-put nexus_cmp nexus_total n n (PowerOn ∷ []) q
    ∙ ap (λ b. cond b (Some (PowerOn ∷ [])) (find nexus_cmp n q)) (eq_by_cmp-nexus n n ∙ same_nexus-refl n)

pub first_reset_known : (q : Slots) (n : Nexus) (ks : List Kind) → slot_of q n ≡ Some ks → oldest_reset ks ≡ first_reset_of (contacted q n) n
first_reset_known q n ks h = sym (ap (option_and_then oldest_reset) (slot_of-known q n (ap is_some h) ∙ h))

pub first_reset_new : (q : Slots) (n : Nexus) → slot_of q n ≡ None → Some PowerOn ≡ first_reset_of (contacted q n) n
first_reset_new q n h = sym (ap (option_and_then oldest_reset) (slot_of-new q n (ap is_some h)))

nothing_waits : (o : Option (List Kind)) → is_some o ≡ false → option_and_then oldest_other o ≡ None
nothing_waits None h = refl
nothing_waits (Some ks) h = absurd cc

-- contact adds no condition of another ASC
pub first_other_contact : (q : Slots) (n : Nexus) → first_other_of q n ≡ first_other_of (contacted q n) n
first_other_contact q n =
    elim (has_slot q n) as (λ (b : Bool). has_slot q n ≡ b → first_other_of q n ≡ first_other_of (contacted q n) n) [
      | true ↦ λ h. sym (ap (option_and_then oldest_other) (slot_of-known q n h))
      | false ↦ λ h. nothing_waits (slot_of q n) h ∙ sym (ap (option_and_then oldest_other) (slot_of-new q n h))
    ] refl
