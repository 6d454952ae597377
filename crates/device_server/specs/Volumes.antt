-- Which volume is at which place of a device, and what stays of it: no command loses a volume, makes one or exchanges two.
use Rattle.std.specs.Prelude.{◌≡◌, ◌≢◌, ◌⊎◌, ℕ, ◌==◌, Bool, true, false, List, [], ◌∷◌, IsPermutation, Option, Some, None, Ok, unwrap_or, if◌then◌else◌}
use Rattle.scsi_cdb.specs.declared.kind.Kind.TheVariants as kind
use Rattle.scsi_cdb.specs.declared.host_request.HostRequest.{HostRequest}
use Rattle.scsi_cdb.specs.declared.host_request.HostRequest.TheVariants.{ExchangeMedium}
use Rattle.scsi_cdb.specs.declared.request.Request.{Request}
use Rattle.scsi_cdb.specs.declared.request.Request.TheVariants.{Write, WriteFilemarks, Erase, MoveMedium, Host}
use Rattle.scsi_sense.specs.CarriedOut.{is_carried_out}
use Rattle.scsi_sense.specs.declared.status.Status.TheVariants.{Good}
use Rattle.tape_medium.specs.declared.volume.VolumeTag.{VolumeTag}
use Rattle.tape_medium.specs.declared.volume.Volume.{Volume}
use Rattle.tape_medium.specs.Elements.{element_at, held_in}
use Rattle.tape_medium.specs.Volumes.{present, volumes}
use Rattle.device_server.specs.declared.outcome.Outcome.{Outcome}
use Rattle.device_server.specs.View.{DeviceView, Drive, Changer, kind_of, performed, taken, put, marked, journeyed, exchange_journeyed, reset_of}

-- the volume at a place, if there is one: a drive's bay is place 0, a changer's are its storage and import/export elements, by address
abbrev pub volume_at : DeviceView → (place : ℕ) → Option Volume
volume_at (Drive d) place = if place == 0 then d.bay else None
volume_at (Changer c) place = unwrap_or (held_in c.elements (element_at c.elements place)) None

-- all volumes of a device
abbrev pub volumes_of : DeviceView → List Volume
volumes_of (Drive d) = present (d.bay ∷ [])
volumes_of (Changer c) = volumes c.elements

-- the same cartridge: all but what is on its tape, and where that stands
pub record SameCartridge (before after : Volume) : Type 0 where
  pub tag : after.tag ≡ before.tag
  pub protected : after.protected ≡ before.protected
  pub capacity : after.tape.capacity ≡ before.tape.capacity

-- the same volume: all but where its tape stands
pub record SameVolume (before after : Volume) : Type 0 where
  pub cartridge : SameCartridge before after
  pub objects : after.tape.objects ≡ before.tape.objects

-- at a place: no volume before and after, or one that is the same
abbrev pub SameAt : (Volume → Volume → Type 0) → (before after : Option Volume) → Type 0
SameAt Same None None = Unit {0}
SameAt Same (Some before) (Some after) = Same before after
SameAt Same before after = ⊥

-- at every place
abbrev pub Keeps : (Volume → Volume → Type 0) → (before after : DeviceView) → Type 0
Keeps Same before after = (place : ℕ) → SameAt Same (volume_at before place) (volume_at after place)

-- one volume is gone from a place, and the others are where they were
pub record GoesOut (before after : DeviceView) (place : ℕ) (volume : Volume) : Type 0 where
  pub full : SameAt SameVolume (volume_at before place) (Some volume)
  pub empty : volume_at after place ≡ None
  pub others : (other : ℕ) → other ≢ place → volume_at after other ≡ volume_at before other

-- one volume has come to a place, and the others are where they were
pub record GoesIn (before after : DeviceView) (place : ℕ) (volume : Volume) : Type 0 where
  pub empty : volume_at before place ≡ None
  pub full : SameAt SameVolume (Some volume) (volume_at after place)
  pub others : (other : ℕ) → other ≢ place → volume_at after other ≡ volume_at before other

-- one volume was carried from a place to another, and the others are where they were. They are the same volumes, also of places that no
-- address names.
pub record Carries (before after : DeviceView) (source destination : ℕ) : Type 0 where
  pub volume : Volume
  pub full : volume_at before source ≡ Some volume
  pub empty : volume_at before destination ≡ None
  pub left : volume_at after source ≡ None
  pub there : volume_at after destination ≡ Some volume
  pub others : (other : ℕ) → other ≢ source → other ≢ destination → volume_at after other ≡ volume_at before other
  pub all : IsPermutation (volumes_of before) (volumes_of after)

-- two volumes were exchanged: the one at the first destination is at the second, the one at the source at the first, and the others are where
-- they were. Where the second destination isn't the source, it was empty, and the source is. They are the same volumes, also of places that no
-- address names.
pub record Exchanges (before after : DeviceView) (source first second : ℕ) : Type 0 where
  pub one : Volume
  pub other : Volume
  pub apart : (source ≢ first) × (first ≢ second)
  pub full : volume_at before source ≡ Some one
  pub first_full : volume_at before first ≡ Some other
  pub empty : second ≢ source → volume_at before second ≡ None
  pub left : second ≢ source → volume_at after source ≡ None
  pub first_there : volume_at after first ≡ Some one
  pub there : volume_at after second ≡ Some other
  pub others : (place : ℕ) → place ≢ source → place ≢ first → place ≢ second → volume_at after place ≡ volume_at before place
  pub all : IsPermutation (volumes_of before) (volumes_of after)

-- the commands that change what is on a tape, and those that change where volumes are
abbrev pub is_write : Request → Bool
is_write (Write fixed transfer_length) = true
is_write (WriteFilemarks wsmk immed count) = true
is_write Erase = true
is_write request = false

abbrev pub is_exchange : HostRequest → Bool
is_exchange (ExchangeMedium transport source first second inv1 inv2) = true
is_exchange command = false

abbrev pub is_move : Request → Bool
is_move (MoveMedium transport source destination invert) = true
is_move (Host command) = is_exchange command
is_move request = false

-- a command changes nothing of the kind where it isn't one of those, or isn't carried out: a write that is neither GOOD nor ends at early
-- warning, a move that isn't GOOD
abbrev pub WritesNothing : Request → Outcome → Type 0
WritesNothing request outcome = (is_write request ≡ false) ⊎ (is_carried_out outcome.status outcome.sense ≡ false)

abbrev pub MovesNothing : Request → Outcome → Type 0
MovesNothing request outcome = (is_move request ≡ false) ⊎ (outcome.status ≢ Good)

-- COMMANDS. A drive keeps its volume
abbrev pub DrivesKeepTheirVolume : Type 0
DrivesKeepTheirVolume = (device : DeviceView) (request : Request) (bytes : List ℕ) → kind_of device ≡ kind.Drive
    → Keeps SameCartridge device (performed device request bytes).0

-- and what is on its tape, but by a WRITE, WRITE FILEMARKS or ERASE that is carried out
abbrev pub DrivesKeepTheirTape : Type 0
DrivesKeepTheirTape = (device : DeviceView) (request : Request) (bytes : List ℕ) → kind_of device ≡ kind.Drive
    → WritesNothing request (performed device request bytes).1 → Keeps SameVolume device (performed device request bytes).0

-- A changer stays just as it is, but by a MOVE MEDIUM or an EXCHANGE MEDIUM that is GOOD
abbrev pub ChangersStay : Type 0
ChangersStay = (device : DeviceView) (request : Request) (bytes : List ℕ) → kind_of device ≡ kind.Changer
    → MovesNothing request (performed device request bytes).1 → (performed device request bytes).0 ≡ device

-- the first of which carries one volume
abbrev pub MovesCarryOne : Type 0
MovesCarryOne = (device : DeviceView) (transport source destination : ℕ) (invert : Bool) (bytes : List ℕ)
    → (performed device (MoveMedium transport source destination invert) bytes).1.status ≡ Good
    → Carries device (performed device (MoveMedium transport source destination invert) bytes).0 source destination

-- and the other two
abbrev pub ExchangesCarryTwo : Type 0
ExchangesCarryTwo = (device : DeviceView) (transport source first second : ℕ) (inv1 inv2 : Bool) (bytes : List ℕ)
    → (performed device (Host (ExchangeMedium transport source first second inv1 inv2)) bytes).1.status ≡ Good
    → Exchanges device (performed device (Host (ExchangeMedium transport source first second inv1 inv2)) bytes).0 source first second

-- A RESET leaves each volume where it is
abbrev pub ResetsKeepVolumes : Type 0
ResetsKeepVolumes = (device : DeviceView) → Keeps SameVolume device (reset_of device)

-- VOLUMES IN AND OUT: just the one that is handed out or in. A mark moves none, and so does a journey that is noted.
abbrev pub TakesOne : Type 0
TakesOne = (before after : DeviceView) (place : ℕ) (volume : Volume) → taken before place ≡ Ok (volume, after) → GoesOut before after place volume

abbrev pub PutsOne : Type 0
PutsOne = (before after : DeviceView) (place : ℕ) (volume : Volume) → put before place volume ≡ Ok after → GoesIn before after place volume

abbrev pub MarksMoveNothing : Type 0
MarksMoveNothing = (before after : DeviceView) (place : ℕ) (tag : Option VolumeTag) → marked before place tag ≡ Ok after
    → (other : ℕ) → volume_at after other ≡ volume_at before other

abbrev pub JourneysMoveNothing : Type 0
JourneysMoveNothing = (device : DeviceView) (source destination other : ℕ) → volume_at (journeyed device source destination) other ≡ volume_at device other

abbrev pub ExchangesThatAreNotedMoveNothing : Type 0
ExchangesThatAreNotedMoveNothing = (device : DeviceView) (source first second other : ℕ)
    → volume_at (exchange_journeyed device source first second) other ≡ volume_at device other
