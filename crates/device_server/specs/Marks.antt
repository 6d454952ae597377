-- The marks of a device: what a changer notes of the drives at its data transfer elements, and what is in a drive indeed. A target has them
-- agree, so both are told in one form.
use Rattle.std.specs.Prelude.{◌≡◌, ℕ, ◌+◌, ◌-◌, ◌<◌, ◌≤◌, List, [], ◌∷◌, slice_set, Option, Some, None, Ok, IsOk}
use Rattle.scsi_cdb.specs.declared.kind.Kind.TheVariants as kind
use Rattle.scsi_cdb.specs.declared.request.Request.{Request}
use Rattle.tape_medium.specs.declared.volume.VolumeTag.{VolumeTag}
use Rattle.tape_medium.specs.declared.volume.Volume.{Volume}
use Rattle.tape_medium.specs.Elements.{tag_of, first_data_transfer}
use Rattle.device_server.specs.View.{DeviceView, Drive, Changer, kind_of, drives_of, performed, taken, put, marked, journeyed, exchange_journeyed, reset_of}
use Rattle.device_server.specs.Ends.{IsSameDevice}

-- of a drive the tag of the volume in its bay, alone; of a changer the tags noted at its data transfer elements, in their order
abbrev pub marks : DeviceView → List (Option VolumeTag)
marks (Drive d) = tag_of d.bay ∷ []
marks (Changer c) = c.elements.data_transfer

-- a device of the same kind, with as many data transfer elements and the same marks
pub record KeepsMarks (before after : DeviceView) : Type 0 where
  pub device : IsSameDevice before after
  pub marks : marks after ≡ marks before

-- a drive that held the volume and holds none
pub record GivesVolume (before after : DeviceView) (volume : Volume) : Type 0 where
  pub device : IsSameDevice before after
  pub full : marks before ≡ Some volume.tag ∷ []
  pub empty : marks after ≡ None ∷ []

-- a drive that held none and holds the volume
pub record GetsVolume (before after : DeviceView) (volume : Volume) : Type 0 where
  pub device : IsSameDevice before after
  pub empty : marks before ≡ None ∷ []
  pub full : marks after ≡ Some volume.tag ∷ []

-- a changer with one mark set, that of the data transfer element at the place
pub record SetsMark (before after : DeviceView) (place : ℕ) (tag : Option VolumeTag) : Type 0 where
  pub device : IsSameDevice before after
  pub first : first_data_transfer ≤ place
  pub last : place < first_data_transfer + drives_of before
  pub marks : marks after ≡ slice_set (marks before) (place - first_data_transfer) tag

-- COMMANDS, RESETS and journeys that are noted change no mark
abbrev pub CommandsKeepMarks : Type 0
CommandsKeepMarks = (device : DeviceView) (request : Request) (bytes : List ℕ) → KeepsMarks device (performed device request bytes).0

abbrev pub ResetsKeepMarks : Type 0
ResetsKeepMarks = (device : DeviceView) → KeepsMarks device (reset_of device)

abbrev pub JourneysKeepMarks : Type 0
JourneysKeepMarks = (device : DeviceView) (source destination : ℕ) → KeepsMarks device (journeyed device source destination)

abbrev pub ExchangesKeepMarks : Type 0
ExchangesKeepMarks = (device : DeviceView) (source first second : ℕ) → KeepsMarks device (exchange_journeyed device source first second)

-- VOLUMES IN AND OUT change the mark of a drive, and none of a changer
abbrev pub DrivesGive : Type 0
DrivesGive = (before after : DeviceView) (place : ℕ) (volume : Volume) → kind_of before ≡ kind.Drive → taken before place ≡ Ok (volume, after)
    → GivesVolume before after volume

abbrev pub DrivesGet : Type 0
DrivesGet = (before after : DeviceView) (place : ℕ) (volume : Volume) → kind_of before ≡ kind.Drive → put before place volume ≡ Ok after
    → GetsVolume before after volume

abbrev pub ChangersGive : Type 0
ChangersGive = (before after : DeviceView) (place : ℕ) (volume : Volume) → kind_of before ≡ kind.Changer → taken before place ≡ Ok (volume, after)
    → KeepsMarks before after

abbrev pub ChangersGet : Type 0
ChangersGet = (before after : DeviceView) (place : ℕ) (volume : Volume) → kind_of before ≡ kind.Changer → put before place volume ≡ Ok after
    → KeepsMarks before after

-- MARKING sets one mark of a changer
abbrev pub MarksOne : Type 0
MarksOne = (before after : DeviceView) (place : ℕ) (tag : Option VolumeTag) → marked before place tag ≡ Ok after
    → SetsMark before after place tag

-- and each data transfer element takes one
abbrev pub EachIsMarked : Type 0
EachIsMarked = (device : DeviceView) (place : ℕ) (tag : Option VolumeTag) → first_data_transfer ≤ place → place < first_data_transfer + drives_of device
    → IsOk (marked device place tag)
