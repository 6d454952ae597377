-- Worked rows: a changer with a drive at 0100h and storage elements 0400h and 0401h, and that drive, LUN 1. A had contact with both. It moves the
-- volume in 0400h into the drive, is told of that, writes a block, asks for a move out of the empty element, and moves the volume into 0401h.
use Rattle.std.specs.Prelude.{◌≡◌, ℕ, Bool, true, false, List, [], ◌∷◌, map, take, drop, replicate, IsPermutation, Option, Some, None}
use Rattle.scsi_cdb.specs.declared.profile.Profile.TheVariants.{Spec}
use Rattle.scsi_sense.specs.declared.status.Status.TheVariants.{Good, CheckCondition}
use Rattle.tape_medium.specs.Object.{Block}
use Rattle.tape_medium.specs.declared.volume.Volume.{Volume}
use Rattle.tape_medium.specs.declared.volume.VolumeTag.{VolumeTag}
use Rattle.device_server.specs.ChangerRows.{library as library_with}
use Rattle.device_server.specs.Failures.{is_failure}
use Rattle.device_server.specs.Volumes.{SameAt}
use Rattle.judgement.specs.declared.reply.Reply.{Reply}
use Rattle.unit_laws.specs.MoveRows.{first_tag, second_tag, move, drive_1, slot_1, slot_2, library, changer_of, empty_drive, full_drive}
use Rattle.unit_laws.specs.Rows.{a, volume}
use Rattle.logical_unit.specs.UnitView.{UnitView}
use Rattle.target_core.specs.declared.event.Event.{Event}
use Rattle.target_core.specs.declared.event.Event.TheVariants as event
use Rattle.target_core.specs.declared.order.CoreFault.TheVariants.{Disagree}
use Rattle.target_laws.specs.Cartridges.{Cartridge, cartridges}
use Rattle.target_core.specs.Faults.{fault_of}
use Rattle.target_laws.specs.Rows.{good_with}
use Rattle.target_core.specs.Run.{Runs}
use Rattle.target_laws.specs.Volumes.{volume_in, Way, Carried, carried_by, is_to, is_written, StaysSame, IsCarried, KeepsVolumes}

-- what A sends to a logical unit: the bytes, and the data
abbrev pub Sending : Type 0
Sending = ℕ × List ℕ × List ℕ

abbrev pub Sends : Event → Sending → Type 0
Sends (event.Command n lun cdb bytes) s = (n ≡ a) × (lun ≡ s.0) × (cdb.items ≡ s.1) × (bytes.items ≡ s.2)
Sends e s = ⊥

abbrev pub AllSend : List Event → List Sending → Type 0
AllSend [] [] = Unit {0}
AllSend (e ∷ es) (s ∷ l) = Sends e s × AllSend es l
AllSend es l = ⊥

-- there are events that send these commands, wherever their data lie
pub record IsSent (l : List Sending) : Type 0 where
  pub events : List Event
  pub send : AllSend events l

abbrev pub test_unit_ready : List ℕ
test_unit_ready = replicate 6 0

-- WRITE(6) of two bytes
abbrev pub write : List ℕ
write = 0x0A ∷ 0 ∷ 0 ∷ 0 ∷ 2 ∷ 0 ∷ []

abbrev pub sent : List Sending
sent =
    (0, move slot_1 drive_1, [])
    ∷ (1, test_unit_ready, [])
    ∷ (1, write, 7 ∷ 8 ∷ [])
    ∷ (0, move slot_1 slot_2, [])
    ∷ (0, move drive_1 slot_2, [])
    ∷ []

-- the target by the mark at its drive, by what is in its storage elements, and by its drive
abbrev pub units : List (Option VolumeTag) → (first second : Option Volume) → UnitView → List UnitView
units marks first second drive = changer_of (library marks first second) ∷ drive ∷ []

-- with a volume in 0400h
abbrev pub stocked : List UnitView
stocked = units (None ∷ []) (Some (volume first_tag)) None (empty_drive 1)

-- the volumes in the drive, in 0400h and in 0401h
abbrev pub places : List UnitView → List (Option Volume)
places us = volume_in us 0x100 ∷ volume_in us 0x400 ∷ volume_in us 0x401 ∷ []

-- the volume once a block was written on it
abbrev pub written_at : (position : ℕ) → Volume
written_at position = record (volume first_tag) { tape = record { objects = Block (7 ∷ 8 ∷ []) ∷ []; position = position; capacity = 1000; unchanged = 0 } }

abbrev pub cartridge : VolumeTag → Cartridge
cartridge tag = record { tag = tag; protected = false; capacity = 1000 }

-- a target of two drives, the second with a volume, and one whose changer has a volume in an import/export element
abbrev pub two_drives : List UnitView
two_drives = changer_of (library (None ∷ Some second_tag ∷ []) (Some (volume first_tag)) None) ∷ empty_drive 1 ∷ full_drive 2 second_tag ∷ []

abbrev pub with_port : List UnitView
with_port = changer_of (library_with None (Some (volume second_tag)) None None) ∷ empty_drive 1 ∷ []

pub record PlacesOfATarget : Type 0 where
  pub empty_drive : volume_in two_drives 0x100 ≡ None
  pub full_drive : volume_in two_drives 0x101 ≡ Some (volume second_tag)
  pub no_drive : volume_in two_drives 0x102 ≡ None
  pub storage : volume_in two_drives 0x400 ≡ Some (volume first_tag)
  pub port : volume_in with_port 0x200 ≡ Some (volume second_tag)
  pub transport : volume_in two_drives 0 ≡ None
  pub no_target : volume_in [] 0x400 ≡ None
  pub cartridges : cartridges two_drives ≡ cartridge first_tag ∷ cartridge second_tag ∷ []

-- for each event, whether it carried a volume, and whether it wrote
abbrev pub ways : List Event → List Reply → List (Option Way)
ways (e ∷ es) (r ∷ rs) = carried_by Spec e r ∷ ways es rs
ways es rs = []

abbrev pub writings : List Event → List Reply → List Bool
writings (e ∷ es) (r ∷ rs) = is_written Spec e r ∷ writings es rs
writings es rs = []

pub record IsMovedRun (es : List Event) : Type 0 where
  pub replies : List Reply
  -- the target behind the WRITE, and in the end
  pub written : List UnitView
  pub last : List UnitView
  pub first : Runs stocked (take 3 es) (take 3 replies) written
  pub rest : Runs written (drop 3 es) (drop 3 replies) last
  pub target : fault_of stocked ≡ None
  -- A is told that the medium may have changed, and that 0400h is empty
  pub statuses : map (λ (r : Reply). r.status) replies ≡ Good ∷ CheckCondition ∷ Good ∷ CheckCondition ∷ Good ∷ []
  pub ways : ways es replies ≡ Some (Carried 0x400 0x100) ∷ None ∷ None ∷ None ∷ Some (Carried 0x100 0x401) ∷ []
  pub writings : writings es replies ≡ false ∷ false ∷ true ∷ false ∷ false ∷ []
  -- the volume, empty at first, with the block, and at its beginning again
  pub at_first : places stocked ≡ None ∷ Some (volume first_tag) ∷ None ∷ []
  pub at_write : places written ≡ Some (written_at 1) ∷ None ∷ None ∷ []
  pub at_last : places last ≡ None ∷ None ∷ Some (written_at 0) ∷ []
  pub cartridges : cartridges last ≡ cartridges stocked

-- whatever events send these commands
abbrev pub MovedRun : Type 0
MovedRun = (es : List Event) → AllSend es sent → IsMovedRun es

-- events that change less than a WRITE that is GOOD
pub record OtherEvents : Type 0 where
  pub to_its_drive : is_to (event.Reset 1) 0x100 ≡ true
  pub to_another : is_to (event.Reset 2) 0x100 ≡ false
  pub reset : is_written Spec (event.Reset 1) (good_with 1) ≡ false
  pub loss : carried_by Spec (event.Loss a 0) (good_with 1) ≡ None

-- a volume that is gone, one that stands twice, one that is another, and one that was written on with no cause, is not kept
pub record NotKept : Type 0 where
  pub gone : ¬ KeepsVolumes stocked (units (None ∷ []) None None (empty_drive 1)) (event.Reset 1) (good_with 1) None
  pub elsewhere : ¬ KeepsVolumes stocked (units (None ∷ []) None (Some (volume first_tag)) (empty_drive 1)) (event.Reset 1) (good_with 1) None
  pub made : ¬ KeepsVolumes stocked (units (None ∷ []) (Some (volume first_tag)) (Some (volume first_tag)) (empty_drive 1)) (event.Reset 1) (good_with 1) None
  pub another : ¬ KeepsVolumes stocked (units (None ∷ []) (Some (volume second_tag)) None (empty_drive 1)) (event.Reset 1) (good_with 1) None
  pub written : ¬ SameAt (StaysSame true false) (Some (volume first_tag)) (Some (written_at 0))
  pub twice : ¬ IsCarried stocked (units (Some first_tag ∷ []) (Some (volume first_tag)) None (full_drive 1 first_tag)) 0x400 0x100
  pub lost : ¬ IsCarried stocked (units (None ∷ []) None None (empty_drive 1)) 0x400 0x100
  pub exchanged : ¬ IsCarried stocked (units (Some second_tag ∷ []) None None (full_drive 1 second_tag)) 0x400 0x100

-- nor are its cartridges the same ones
pub record OtherCartridges : Type 0 where
  pub lost : ¬ IsPermutation (cartridges stocked) (cartridges (units (None ∷ []) None None (empty_drive 1)))
  pub doubled : ¬ IsPermutation (cartridges stocked) (cartridges (units (Some first_tag ∷ []) (Some (volume first_tag)) None (full_drive 1 first_tag)))
  pub exchanged : ¬ IsPermutation (cartridges stocked) (cartridges (units (None ∷ []) None (Some (volume second_tag)) (empty_drive 1)))

-- units whose marks aren't true of their drives are no target, and they fail: the mark says that the drive has a volume, and it has none
abbrev pub disagreeing : List UnitView
disagreeing = units (Some first_tag ∷ []) None None (empty_drive 1)

pub record IsFailedRun (es : List Event) : Type 0 where
  pub no_target : fault_of disagreeing ≡ Some Disagree
  pub reply : Reply
  pub last : List UnitView
  pub run : Runs disagreeing es (reply ∷ []) last
  pub fails : is_failure reply.sense ≡ true

-- a move out of the drive
abbrev pub sent_out : List Sending
sent_out = (0, move drive_1 slot_2, []) ∷ []

abbrev pub FailedRun : Type 0
FailedRun = (es : List Event) → AllSend es sent_out → IsFailedRun es
