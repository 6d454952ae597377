-- Worked rows: the sense data of each attention, by the additional sense codes and qualifiers of SPC-4; which event raises it, and for whom;
-- and what ends a prevention of removal.
use Rattle.std.specs.Prelude.{◌≡◌, ℕ, true, false, List, [], ◌∷◌, replicate, Some, None, Result, Ok, Err}
use Rattle.scsi_nexus.specs.declared.nexus.Nexus.{Nexus}
use Rattle.unit_attention.specs.declared.kind.Kind.{Kind}
use Rattle.unit_attention.specs.declared.kind.Kind.TheVariants.{PowerOn, BusDeviceReset, NexusLoss, MediumChanged, ModeParametersChanged, LogParametersChanged, ReservationsPreempted, ReservationsReleased, RegistrationsPreempted}
use Rattle.permit_tables.specs.declared.res_type.ResType.{ResType}
use Rattle.permit_tables.specs.declared.res_type.ResType.TheVariants.{Ea, Wero}
use Rattle.tape_medium.specs.declared.volume.VolumeTag.{VolumeTag}
use Rattle.judgement.specs.UnitStateView.{UnitStateView}
use Rattle.logical_unit.specs.declared.medium_fault.MediumFault.{MediumFault}
use Rattle.logical_unit.specs.UnitView.{UnitView}
use Rattle.logical_unit.specs.Step.{answered, loses, resets}
use Rattle.logical_unit.specs.Medium.{put_in}
use Rattle.unit_laws.specs.Rows.{a, b, c, slots_with, kept_by_a, volume, drive_of, unit_with, drive_held, sense_bytes, sense_with, keys}

-- the drive with its volume, by what it keeps
abbrev pub drive_with : VolumeTag → UnitStateView → UnitView
drive_with tag state = unit_with (drive_of (Some (volume tag)) true) state

-- the sense data that a nexus is told by its next TEST UNIT READY, none where it is GOOD
abbrev pub told : UnitView → Nexus → List ℕ
told u n = sense_bytes (answered u n (replicate 6 0) []).1.sense

-- where one attention waits for A
abbrev pub told_of : VolumeTag → Kind → List ℕ
told_of tag kind = told (drive_with tag (kept_by_a ((a, kind ∷ []) ∷ []) [])) a

pub record SenseOfAttentions (tag : VolumeTag) : Type 0 where
  -- NOT READY TO READY CHANGE, MEDIUM MAY HAVE CHANGED
  pub medium_changed : told_of tag MediumChanged ≡ sense_with 6 0x28 0x00
  -- POWER ON, RESET, OR BUS DEVICE RESET OCCURRED
  pub power_on : told_of tag PowerOn ≡ sense_with 6 0x29 0x00
  -- BUS DEVICE RESET FUNCTION OCCURRED
  pub bus_device_reset : told_of tag BusDeviceReset ≡ sense_with 6 0x29 0x03
  -- I_T NEXUS LOSS OCCURRED
  pub nexus_loss : told_of tag NexusLoss ≡ sense_with 6 0x29 0x07
  -- MODE PARAMETERS CHANGED
  pub mode_parameters_changed : told_of tag ModeParametersChanged ≡ sense_with 6 0x2A 0x01
  -- LOG PARAMETERS CHANGED
  pub log_parameters_changed : told_of tag LogParametersChanged ≡ sense_with 6 0x2A 0x02
  -- RESERVATIONS PREEMPTED
  pub reservations_preempted : told_of tag ReservationsPreempted ≡ sense_with 6 0x2A 0x03
  -- RESERVATIONS RELEASED
  pub reservations_released : told_of tag ReservationsReleased ≡ sense_with 6 0x2A 0x04
  -- REGISTRATIONS PREEMPTED
  pub registrations_preempted : told_of tag RegistrationsPreempted ≡ sense_with 6 0x2A 0x05

-- WHICH EVENT TELLS WHOM OF WHAT

-- a volume that came in, if it did
abbrev pub told_in : Result UnitView MediumFault → Nexus → List ℕ
told_in (Ok u) n = told u n
told_in (Err fault) n = []

abbrev pub volume_came : VolumeTag → Result UnitView MediumFault
volume_came tag = put_in (unit_with (drive_of None false) (kept_by_a (slots_with []) [])) (volume tag)

pub record RaisedByEvents (tag : VolumeTag) : Type 0 where
  -- the first contact of C, a loss of B, a reset, and a volume that comes in
  pub contact : told (drive_held tag) c ≡ sense_with 6 0x29 0x00
  pub loss : told (loses (drive_held tag) b) b ≡ sense_with 6 0x29 0x07
  pub loss_of_another : told (loses (drive_held tag) b) a ≡ []
  pub reset : told (resets (drive_held tag)) a ≡ sense_with 6 0x29 0x03
  pub reset_of_all : told (resets (drive_held tag)) b ≡ sense_with 6 0x29 0x03
  pub medium : told_in (volume_came tag) a ≡ sense_with 6 0x28 0x00
  pub medium_for_all : told_in (volume_came tag) b ≡ sense_with 6 0x28 0x00

-- A's MODE SELECT(6) of a block length, while B and C have slots too
abbrev pub three_slots : VolumeTag → UnitView
three_slots tag = drive_with tag (kept_by_a ((a, []) ∷ (b, []) ∷ (c, []) ∷ []) [])

abbrev pub selected : VolumeTag → (high low : ℕ) → UnitView
selected tag high low =
    (answered (three_slots tag) a (0x15 ∷ 0x10 ∷ 0 ∷ 0 ∷ 0x0C ∷ 0 ∷ []) (0 ∷ 0 ∷ 0 ∷ 8 ∷ 0 ∷ 0 ∷ 0 ∷ 0 ∷ 0 ∷ 0 ∷ high ∷ low ∷ [])).0

-- every other slot is told, where the block length changes
pub record RaisedByModeSelect (tag : VolumeTag) : Type 0 where
  pub waits : (selected tag 0x02 0x00).state.slots ≡ (a, []) ∷ (b, ModeParametersChanged ∷ []) ∷ (c, ModeParametersChanged ∷ []) ∷ []
  pub told_b : told (selected tag 0x02 0x00) b ≡ sense_with 6 0x2A 0x01
  pub told_c : told (selected tag 0x02 0x00) c ≡ sense_with 6 0x2A 0x01
  pub not_a : told (selected tag 0x02 0x00) a ≡ []
  pub unchanged : (selected tag 0x00 0x00).state.slots ≡ (a, []) ∷ (b, []) ∷ (c, []) ∷ []

-- A (key 1) holds, and B has key 2; A's PERSISTENT RESERVE OUT by service action, scope and type, and keys
abbrev pub both : ResType → (preventers : List Nexus) → UnitStateView
both type preventers = record (kept_by_a (slots_with []) preventers) { reservations = record { keys = (a, 1) ∷ (b, 2) ∷ []; reservation = Some (type, a); generation = 2 } }

abbrev pub reserved_out : VolumeTag → UnitStateView → (action scope_type sark : ℕ) → UnitView
reserved_out tag state action scope_type sark =
    (answered (drive_with tag state) a (0x5F ∷ action ∷ scope_type ∷ 0 ∷ 0 ∷ 0 ∷ 0 ∷ 0 ∷ 0x18 ∷ 0 ∷ []) (keys 1 sark)).0

-- CLEAR, RELEASE of Write Exclusive - Registrants Only, and PREEMPT of B's key
pub record RaisedByReservations (tag : VolumeTag) : Type 0 where
  pub clear : told (reserved_out tag (both Ea []) 3 0 0) b ≡ sense_with 6 0x2A 0x03
  pub release : told (reserved_out tag (both Wero []) 2 5 0) b ≡ sense_with 6 0x2A 0x04
  pub preempt : told (reserved_out tag (both Ea []) 4 3 2) b ≡ sense_with 6 0x2A 0x05
  pub not_the_sender : told (reserved_out tag (both Ea []) 3 0 0) a ≡ []

-- WHAT ENDS A PREVENTION OF REMOVAL, of A and of B

pub record PreventionsEnd (tag : VolumeTag) : Type 0 where
  -- a loss of the nexus, and of no other; a reset
  pub loss : (loses (drive_with tag (both Ea (a ∷ b ∷ []))) a).state.preventers ≡ b ∷ []
  pub loss_of_another : (loses (drive_with tag (both Ea (a ∷ []))) b).state.preventers ≡ a ∷ []
  pub reset : (resets (drive_with tag (both Ea (a ∷ b ∷ [])))).state.preventers ≡ []
  -- PREEMPT AND ABORT that removes it, where PREEMPT leaves it; one that is refused, of key 0, and one of another key end nothing
  pub preempt_and_abort : (reserved_out tag (both Ea (a ∷ b ∷ [])) 5 3 2).state.preventers ≡ a ∷ []
  pub preempt : (reserved_out tag (both Ea (a ∷ b ∷ [])) 4 3 2).state.preventers ≡ a ∷ b ∷ []
  pub refused : (reserved_out tag (both Ea (a ∷ b ∷ [])) 5 3 0).state.preventers ≡ a ∷ b ∷ []
  pub another_key : (reserved_out tag (both Ea (a ∷ b ∷ [])) 5 3 9).state.preventers ≡ a ∷ b ∷ []
  -- ALLOW of the nexus; then a volume can be unloaded
  pub allow : (answered (drive_with tag (both Ea (a ∷ b ∷ []))) b (0x1E ∷ replicate 5 0) []).0.state.preventers ≡ a ∷ []
  pub prevented : sense_bytes (answered (drive_with tag (both Ea (b ∷ []))) a (0x1B ∷ replicate 5 0) []).1.sense ≡ sense_with 5 0x53 0x02
  pub ended : sense_bytes (answered (reserved_out tag (both Ea (b ∷ [])) 5 3 2) a (0x1B ∷ replicate 5 0) []).1.sense ≡ []
