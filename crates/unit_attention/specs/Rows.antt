-- Worked lists of what waits, and worked slots: A and B at port 1.
use Rattle.std.specs.Prelude.{◌≡◌, false, [], ◌∷◌, None, Some}
use Rattle.scsi_nexus.specs.declared.nexus.Nexus.{Nexus}
use Rattle.unit_attention.specs.declared.kind.Kind.TheVariants.{PowerOn, BusDeviceReset, NexusLoss, MediumChanged, ModeParametersChanged, LogParametersChanged, ReservationsPreempted, ReservationsReleased, RegistrationsPreempted}
use Rattle.unit_attention.specs.Pending.{with_kind, without_kind, oldest_reset, oldest_other, is_reset}
use Rattle.unit_attention.specs.Queues.{Slots, slot_limit, slot_of, has_slot, contacted, raised, all_raised, for_others, cleared, lost, was_reset, first_reset_of, first_other_of}

abbrev pub a : Nexus
a = record { sas = 0x500000000000000A; port = 1 }

abbrev pub b : Nexus
b = record { sas = 0x500000000000000B; port = 1 }

pub record PendingRows : Type 0 where
  -- a kind goes to the end, and one that is raised again keeps its place
  pub at_the_end : with_kind (NexusLoss ∷ MediumChanged ∷ []) ReservationsReleased ≡ NexusLoss ∷ MediumChanged ∷ ReservationsReleased ∷ []
  pub again : with_kind (MediumChanged ∷ NexusLoss ∷ ReservationsReleased ∷ []) MediumChanged ≡ MediumChanged ∷ NexusLoss ∷ ReservationsReleased ∷ []
  -- 29h/00h empties the list first
  pub power_on : with_kind (MediumChanged ∷ NexusLoss ∷ []) PowerOn ≡ PowerOn ∷ []
  pub after_power_on : with_kind (PowerOn ∷ []) NexusLoss ≡ PowerOn ∷ NexusLoss ∷ []
  -- one that was reported goes, and only that
  pub reported : without_kind (MediumChanged ∷ NexusLoss ∷ ReservationsReleased ∷ []) NexusLoss ≡ MediumChanged ∷ ReservationsReleased ∷ []
  pub none_such : without_kind (MediumChanged ∷ []) NexusLoss ≡ MediumChanged ∷ []
  -- the oldest of ASC 29h, and the oldest of the others, whichever came first
  pub resets : oldest_reset (ModeParametersChanged ∷ NexusLoss ∷ MediumChanged ∷ BusDeviceReset ∷ []) ≡ Some NexusLoss
  pub others : oldest_other (NexusLoss ∷ ModeParametersChanged ∷ MediumChanged ∷ []) ≡ Some ModeParametersChanged
  pub log_is_no_reset : oldest_reset (LogParametersChanged ∷ []) ≡ None
  pub log_and_mode : with_kind (ModeParametersChanged ∷ []) LogParametersChanged ≡ ModeParametersChanged ∷ LogParametersChanged ∷ []
  pub no_reset : oldest_reset (MediumChanged ∷ RegistrationsPreempted ∷ []) ≡ None
  pub no_other : oldest_other (PowerOn ∷ BusDeviceReset ∷ []) ≡ None
  pub preempted_is_no_reset : is_reset ReservationsPreempted ≡ false

-- A has a slot, where 29h/00h was reported and then the medium changed
abbrev pub one_slot : Slots
one_slot = (a, MediumChanged ∷ []) ∷ []

pub record SlotRows : Type 0 where
  -- a first contact gives a slot in its order; a later one changes nothing
  pub first_contact : contacted one_slot b ≡ (a, MediumChanged ∷ []) ∷ (b, PowerOn ∷ []) ∷ []
  pub first_contact_before : contacted ((b, []) ∷ []) a ≡ (a, PowerOn ∷ []) ∷ (b, []) ∷ []
  pub second_contact : contacted one_slot a ≡ one_slot
  -- a nexus without a slot has nothing to raise, to clear or to lose
  pub raised_for_a_stranger : raised one_slot b NexusLoss ≡ one_slot
  pub cleared_for_a_stranger : cleared one_slot b MediumChanged ≡ one_slot
  pub stranger_is_lost : lost one_slot b ≡ one_slot
  pub stranger : has_slot one_slot b ≡ false
  -- what is raised, cleared and lost is the named nexus's alone
  pub raised_for_one : raised (contacted one_slot b) a ReservationsReleased ≡ (a, MediumChanged ∷ ReservationsReleased ∷ []) ∷ (b, PowerOn ∷ []) ∷ []
  pub cleared_for_one : cleared (contacted one_slot b) b PowerOn ≡ (a, MediumChanged ∷ []) ∷ (b, []) ∷ []
  pub one_is_lost : lost (contacted one_slot b) a ≡ (a, MediumChanged ∷ NexusLoss ∷ []) ∷ (b, PowerOn ∷ []) ∷ []
  -- one condition for all others: neither the sender nor one that is named
  pub for_all_others : for_others b [] ReservationsReleased (a ∷ b ∷ []) ≡ (a, ReservationsReleased) ∷ []
  pub for_a_stranger_too : for_others b [] ReservationsPreempted (a ∷ []) ≡ (a, ReservationsPreempted) ∷ []
  pub but_for_the_named : for_others b (a ∷ []) ReservationsReleased (a ∷ b ∷ []) ≡ []
  pub raised_for_each : all_raised (contacted one_slot b) ((a, ReservationsReleased) ∷ (b, NexusLoss) ∷ []) ≡ (a, MediumChanged ∷ ReservationsReleased ∷ []) ∷ (b, PowerOn ∷ NexusLoss ∷ []) ∷ []
  -- a reset is told to each slot
  pub all_are_reset : was_reset (contacted one_slot b) ≡ (a, MediumChanged ∷ BusDeviceReset ∷ []) ∷ (b, PowerOn ∷ BusDeviceReset ∷ []) ∷ []
  -- what a nexus is told first
  pub first_reset : first_reset_of (was_reset one_slot) a ≡ Some BusDeviceReset
  pub first_other : first_other_of (was_reset one_slot) a ≡ Some MediumChanged
  pub first_of_a_stranger : first_reset_of (was_reset one_slot) b ≡ None
  pub waits_for_a_stranger : slot_of one_slot b ≡ None
  pub limit : slot_limit ≡ 128
