-- How what a unit keeps changes.
use Rattle.std.specs.Prelude.{◌≡◌, ℕ, ◌&&◌, ◌||◌, ◌==◌, not, Bool, true, if◌then◌else◌, List, [], ◌∷◌, ◌++◌, filter, map, length, Option, None, Some}
use Rattle.std.specs.List.{fold, list_all}
use Rattle.scsi_cdb.specs.declared.service_action.OutServiceAction.{OutServiceAction}
use Rattle.scsi_cdb.specs.declared.service_action.OutServiceAction.TheVariants.{PreemptAndAbort}
use Rattle.scsi_cdb.specs.declared.profile.Profile.{Profile}
use Rattle.scsi_nexus.specs.declared.nexus.Nexus.{Nexus}
use Rattle.scsi_nexus.specs.Order.{same_nexus}
use Rattle.unit_attention.specs.declared.kind.Kind.{Kind}
use Rattle.unit_attention.specs.declared.kind.Kind.TheVariants.{MediumChanged}
use Rattle.unit_attention.specs.Queues.{Slots, slot_limit, has_slot, contacted, raised, all_raised, cleared, lost, was_reset}
use Rattle.permit_tables.specs.declared.out_params.OutParams.{OutParams}
use Rattle.pr_core.specs.State.{power_on}
use Rattle.pr_core.specs.Outcome.{act_of, applied, raised_by, removed_by}
use Rattle.pr_core.specs.Targets.{is_among}
use Rattle.judgement.specs.UnitStateView.{UnitStateView}

-- at power on nobody is registered and nobody had contact
abbrev pub at_power_on : Profile → (lun units : ℕ) → UnitStateView
at_power_on profile lun units =
    record { lun = lun; units = units; profile = profile; reservations = power_on; slots = []; preventers = [] }

-- whether the sender has a slot or there is one for it
abbrev pub has_room : UnitStateView → Nexus → Bool
has_room k n = has_slot k.slots n || not (length k.slots == slot_limit)

-- after the contact that each command is
abbrev pub after_contact : UnitStateView → Nexus → UnitStateView
after_contact k n = record k { slots = contacted k.slots n }

-- after a pending attention was reported
abbrev pub reported : UnitStateView → Nexus → Kind → UnitStateView
reported k n kind = record k { slots = cleared k.slots n kind }

-- an attention raised for every nexus that has a slot, and for every one but the sender
abbrev pub with_slots : Slots → List Nexus
with_slots q = map (λ e. e.0) q

abbrev pub raised_for_all : Slots → Kind → Slots
raised_for_all q kind = fold (λ slots n. raised slots n kind) q (with_slots q)

abbrev pub raised_for_others : Slots → (sender : Nexus) → Kind → Slots
raised_for_others q sender kind = fold (λ slots n. if same_nexus n sender then slots else raised slots n kind) q (with_slots q)

-- after a command of a nexus that told the others something, or nothing
abbrev pub after_telling : UnitStateView → Nexus → (told : Option Kind) → UnitStateView
after_telling k n None = k
after_telling k n (Some kind) = record k { slots = raised_for_others k.slots n kind }

-- after a volume came in
abbrev pub with_medium : UnitStateView → UnitStateView
with_medium k = record k { slots = raised_for_all k.slots MediumChanged }

-- whether no nexus stands twice
abbrev pub are_distinct : List Nexus → Bool
are_distinct [] = true
are_distinct (n ∷ ns) = not (is_among n ns) && are_distinct ns

-- each nexus that prevents removal has a slot, and stands once
pub record HaveSlots (q : Slots) (preventing : List Nexus) : Type 0 where
  pub slots : list_all (has_slot q) preventing ≡ true
  pub once : are_distinct preventing ≡ true

-- whether somebody prevents the removal of media
abbrev pub is_prevented : UnitStateView → Bool
is_prevented k = not (length k.preventers == 0)

-- after PREVENT, and after ALLOW, by a nexus
abbrev pub prevented : UnitStateView → Nexus → UnitStateView
prevented k n = record k { preventers = if is_among n k.preventers then k.preventers else k.preventers ++ n ∷ [] }

abbrev pub allowed : UnitStateView → Nexus → UnitStateView
allowed k n = record k { preventers = filter (λ p. not (same_nexus p n)) k.preventers }

-- the preventions that an accepted command leaves: PREEMPT AND ABORT ends those of the nexuses that it removes
abbrev pub preventers_after : List Nexus → OutServiceAction → (removed : List Nexus) → List Nexus
preventers_after preventers PreemptAndAbort removed = filter (λ p. not (is_among p removed)) preventers
preventers_after preventers action removed = preventers

-- after an accepted PERSISTENT RESERVE OUT command
abbrev pub accepted : UnitStateView → Nexus → OutParams → UnitStateView
accepted k n params = record k {
  reservations = applied k.reservations n params;
  slots = all_raised k.slots (raised_by k.reservations n (act_of k.reservations n params));
  preventers = preventers_after k.preventers params.act (removed_by k.reservations n (act_of k.reservations n params));
}

-- what is kept after an I_T nexus loss, and after a reset of the unit: an attention for the nexus, or for every slot, and its
-- prevention of removal, or everybody's, ends
abbrev pub kept_after_loss : UnitStateView → Nexus → UnitStateView
kept_after_loss k n = allowed (record k { slots = lost k.slots n }) n

abbrev pub kept_after_reset : UnitStateView → UnitStateView
kept_after_reset k = record k { slots = was_reset k.slots; preventers = [] }
