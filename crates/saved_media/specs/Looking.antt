-- What those know who look at a device while nobody else is at it.
use Rattle.std.specs.Prelude.{◌≡◌, ◌≢◌, ℕ, Option, Some, None, Result, Ok, Err}
use Rattle.device_server.specs.Settled.{settled_at}
use Rattle.device_server.specs.View.{DeviceView}
use Rattle.device_server.specs.Volumes.{volume_at}
use Rattle.tape_flush.specs.declared.fault.FlushFault.{FlushFault}
use Rattle.tape_flush.specs.Images.{TapePartValue}
use Rattle.tape_medium.specs.declared.volume.Volume.{Volume}
use Rattle.tape_medium.specs.declared.volume.VolumeTag.{VolumeTag}
use Rattle.tape_flush.specs.declared.part_range.PartRange.{PartRange}
use Rattle.tape_flush.specs.Saved.{SavedImageValue, IsTaken}

-- the volume with a tag is at a place
abbrev pub LiesAt : DeviceView → (place : ℕ) → VolumeTag → Volume → Type 0
LiesAt device place tag volume = (volume_at device place ≡ Some volume) × (volume.tag ≡ tag)

-- what was taken at a place of the volume with a tag: a part of its tape for its image, or a fault, or none where that volume isn't there
abbrev pub WasTaken : {S : Type 0} → SavedImageValue S → DeviceView → (place : ℕ) → VolumeTag → Option (Result PartRange FlushFault) → TapePartValue → Type 0
WasTaken kept device place tag None part = (volume : Volume) → volume_at device place ≡ Some volume → volume.tag ≢ tag
WasTaken kept device place tag (Some (Err fault)) part = (volume : Volume) × LiesAt device place tag volume
WasTaken kept device place tag (Some (Ok range)) part = (volume : Volume) × (LiesAt device place tag volume × IsTaken kept volume.tape range part)

-- the volume counts as unchanged up to the end of the part that was taken, and where none was, nothing has changed
abbrev pub settled_by : Option (Result PartRange FlushFault) → (place : ℕ) → DeviceView → DeviceView
settled_by None place device = device
settled_by (Some (Err fault)) place device = device
settled_by (Some (Ok range)) place device = settled_at device place range.end
