-- Values of worked rows: a volume of two filemarks in a drive, the part of its image, and an attendant that notes what it sees.
use Rattle.std.specs.Prelude.{◌≡◌, ℕ, true, false, List, [], ◌∷◌, ◌++◌, Some, None}
use Rattle.tape_medium.specs.Object.{Mark}
use Rattle.tape_medium.specs.declared.volume.Volume.{Volume}
use Rattle.tape_medium.specs.declared.volume.VolumeTag.{VolumeTag}
use Rattle.device_server.specs.Drive.{DriveView}
use Rattle.device_server.specs.View.{DeviceView}
use Rattle.tape_flush.specs.Images.{TapePartValue}
use Rattle.tape_flush.specs.declared.part_range.PartRange.{PartRange}
use Rattle.tape_flush.specs.Careful.{known_of}
use Rattle.tape_flush.specs.Saved.{SavedImageValue}
use Rattle.tape_flush.specs.Stores.{file_value}
use Rattle.tape_flush.specs.declared.known.FileTail.TheVariants.{Empty}

-- an image of no object, in a file without a byte
abbrev pub no_image : SavedImageValue (Unit {0})
no_image = record { ends = []; known = known_of 0 0 0 0 Empty; store = tt; file = Some (file_value [] 0 [] (0 ∷ [])); untouched = true }

-- so many objects of two, from the first on
abbrev pub up_to : (end : ℕ) → PartRange
up_to end = record { stay = 0; end = end; count = 2 }

-- two filemarks in an image
abbrev pub part_of_two_marks : TapePartValue
part_of_two_marks = record { bytes = 0 ∷ 0 ∷ 0 ∷ 0 ∷ 0 ∷ 0 ∷ 0 ∷ 0 ∷ []; ends = 4 ∷ 8 ∷ [] }

-- a volume of them at the beginning of its tape, of which so many count as unchanged, and a drive with it
abbrev pub marked_volume : (unchanged : ℕ) → VolumeTag → Volume
marked_volume unchanged tag =
    record { tag = tag; protected = false; tape = record { objects = Mark ∷ Mark ∷ []; position = 0; capacity = 10; unchanged = unchanged } }

abbrev pub drive_of_marks : (unchanged : ℕ) → VolumeTag → DriveView
drive_of_marks unchanged tag = record { bay = Some (marked_volume unchanged tag); loaded = true; block_length = 0; hosts = None }

-- as it was loaded, and once a part of one object was taken
abbrev pub loaded_drive : VolumeTag → DriveView
loaded_drive = drive_of_marks 2

abbrev pub settled_drive : VolumeTag → DriveView
settled_drive = drive_of_marks 1

-- notes each device after those before, with the number of its unit, and leaves it as it is
abbrev pub Notes : List (ℕ × DeviceView) → (lun : ℕ) → (before after : DeviceView) → List (ℕ × DeviceView) → Type 0
Notes old lun before after new = (after ≡ before) × (new ≡ old ++ (lun, before) ∷ [])
