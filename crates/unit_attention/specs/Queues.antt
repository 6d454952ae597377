-- The lists of all nexuses that had contact with a unit, ascending by nexus, each with what waits for it.
use Rattle.std.specs.Prelude.{◌≡◌, ℕ, Bool, ◌||◌, if◌then◌else◌, List, [], ◌∷◌, map, slice_index_or, Option, None, Some, is_some, option_and_then}
use Rattle.std.specs.List.{fold, filter_map, list_any}
use Rattle.std.specs.FinMap.{find, put}
use Rattle.scsi_nexus.specs.declared.nexus.Nexus.{Nexus}
use Rattle.scsi_nexus.specs.Order.{nexus_cmp, same_nexus}
use Rattle.unit_attention.specs.declared.kind.Kind.{Kind}
use Rattle.unit_attention.specs.declared.kind.Kind.TheVariants.{PowerOn, BusDeviceReset, NexusLoss}
use Rattle.unit_attention.specs.Pending.{with_kind, without_kind, oldest_reset, oldest_other}

-- how many nexuses a unit has slots for (profile)
abbrev pub slot_limit : ℕ
slot_limit = 128

-- a slot for each nexus
abbrev pub Slots : Type 0
Slots = List (Nexus × List Kind)

-- what waits for a nexus, if it has a slot
abbrev pub slot_of : Slots → Nexus → Option (List Kind)
slot_of q n = find nexus_cmp n q

abbrev pub has_slot : Slots → Nexus → Bool
has_slot q n = is_some (slot_of q n)

-- a change of what waits for a nexus; a nexus without a slot has nothing to change
abbrev pub with_change : Slots → Nexus → (List Kind → List Kind) → Slots
with_change q n f = elim (slot_of q n) [ None ↦ q | Some ks ↦ put nexus_cmp n (f ks) q ]

-- the first contact gives a slot, where the power on condition waits
abbrev pub contacted : Slots → Nexus → Slots
contacted q n = if has_slot q n then q else put nexus_cmp n (PowerOn ∷ []) q

abbrev pub raised : Slots → Nexus → Kind → Slots
raised q n k = with_change q n (λ ks. with_kind ks k)

-- attentions raised one after another
abbrev pub all_raised : Slots → List (Nexus × Kind) → Slots
all_raised q attentions = fold (λ slots e. raised slots e.0 e.1) q attentions

-- whether a nexus is the sender, or one of those that are named
abbrev pub is_excepted : Nexus → List Nexus → Nexus → Bool
is_excepted s named n = same_nexus n s || list_any (same_nexus n) named

-- the attention of a kind for a nexus, unless it is excepted
abbrev pub for_other : Nexus → List Nexus → Kind → Nexus → Option (Nexus × Kind)
for_other s named k n = if is_excepted s named n then None else Some (n, k)

-- the attentions of a kind for these nexuses, all but a sender and some that are named
abbrev pub for_others : Nexus → List Nexus → Kind → List Nexus → List (Nexus × Kind)
for_others s named k ns = filter_map (for_other s named k) ns

abbrev pub cleared : Slots → Nexus → Kind → Slots
cleared q n k = with_change q n (λ ks. without_kind ks k)

-- a loss of a nexus is told to that nexus, a reset to every slot
abbrev pub lost : Slots → Nexus → Slots
lost q n = raised q n NexusLoss

abbrev pub was_reset : Slots → Slots
was_reset q = map (λ e. (e.0, with_kind e.1 BusDeviceReset)) q

abbrev pub first_reset_of : Slots → Nexus → Option Kind
first_reset_of q n = option_and_then oldest_reset (slot_of q n)

abbrev pub first_other_of : Slots → Nexus → Option Kind
first_other_of q n = option_and_then oldest_other (slot_of q n)

-- the slot at a place is that of the nexus
abbrev pub IsSlotAt : Slots → Nexus → ℕ → Type 0
IsSlotAt q n place = (d : Nexus × List Kind) → slot_of q n ≡ Some (slice_index_or q place d).1
