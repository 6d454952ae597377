-- Values of worked rows: the images of a library, of which the second and the third are of the same volume, and what may wait at a keeper with
-- them.
use Rattle.std.specs.Prelude.{ℕ, Bool, true, false, List, [], ◌∷◌, Option}
use Rattle.scsi_cdb.specs.declared.classes.Class.{Class}
use Rattle.tape_medium.specs.declared.volume.VolumeTag.{VolumeTag}
use Rattle.tickets.specs.declared.ticket.Ticket.{Ticket}
use Rattle.tape_keeper.specs.declared.keeper.CarriedOutCommand.{CarriedOutCommand}
use Rattle.library_inventory.specs.Tags.{tag_of}
use Rattle.saved_media.specs.Saving.{WaitsFor}
use Rattle.saved_media.specs.Seen.{SeenImage}
use Rattle.saved_media.specs.Wishes.{wish_of}

abbrev pub image : (number : ℕ) → (is_protected : Bool) → SeenImage
image number is_protected = record { tag = tag_of number; is_protected = is_protected }

abbrev pub four_images : List SeenImage
four_images = image 1 false ∷ image 2 true ∷ image 2 false ∷ image 3 false ∷ []

-- a command at the drive with LUN 1
abbrev pub command : Class → (is_immediate : Bool) → Option VolumeTag → CarriedOutCommand
command class is_immediate volume = record { lun = 1; class = class; is_immediate = is_immediate; volume = volume; length = 512 }

-- a command with IMMED, or without it
abbrev pub AtOnce : Class → Option VolumeTag → Option Ticket → Type 0
AtOnce class volume = WaitsFor four_images (command class true volume) (wish_of class true)

abbrev pub Waits : Class → Option VolumeTag → Option Ticket → Type 0
Waits class volume = WaitsFor four_images (command class false volume) (wish_of class false)
