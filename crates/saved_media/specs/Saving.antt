-- What the reply to a command waits for at a keeper of tapes, by the images that it has (profile).
use Rattle.std.specs.Prelude.{◌≡◌, ◌<◌, ℕ, Bool, false, List, length, position, slice_get, Option, Some, None, IfSome, IsSomeAnd, MatchBool}
use Rattle.std.specs.Option.{option_map_or}
use Rattle.tape_medium.specs.declared.volume.VolumeTag.{VolumeTag}
use Rattle.tickets.specs.declared.ticket.Ticket.{Ticket}
use Rattle.tape_keeper.specs.declared.keeper.CarriedOutCommand.{CarriedOutCommand}
use Rattle.library_inventory.specs.Tags.{same_tag}
use Rattle.saved_media.specs.Items.{number_of, numbered}
use Rattle.saved_media.specs.Seen.{SeenImage}
use Rattle.saved_media.specs.declared.item.KeptItem.{KeptItem}
use Rattle.saved_media.specs.declared.item.KeptItem.TheVariants.{Tape, Moved, Inventory, Backlog}
use Rattle.saved_media.specs.declared.wish.Wish.{Wish}
use Rattle.saved_media.specs.declared.wish.Wish.TheVariants.{Nothing, Behind, Volume, VolumeBehind, Move}

abbrev pub ticket : (thing number : ℕ) → Ticket
ticket thing number = record { thing = thing; number = number }

-- of nothing, which counts as kept at once
abbrev pub kept_ticket : Ticket
kept_ticket = ticket 0 0

-- of what nobody can keep, which counts as lost at once
abbrev pub lost_ticket : Ticket
lost_ticket = ticket 0xFFFFFFFF 0xFFFFFFFFFFFFFFFF

-- of a request for the item with a number, the first of which has number 1; nobody can keep one that has none
abbrev pub IsOfNumber : Option ℕ → Ticket → Type 0
IsOfNumber None asked = asked ≡ lost_ticket
IsOfNumber (Some number) asked = (asked.thing ≡ number) × (0 < asked.number)

-- of a request for an item, in a library with so many numbered images
abbrev pub IsAskedFor : (images : ℕ) → KeptItem → Ticket → Type 0
IsAskedFor images item = IsOfNumber (number_of images item)

-- of a request for an item, in a library with these images
abbrev pub IsOfItem : List SeenImage → KeptItem → Ticket → Type 0
IsOfItem images = IsAskedFor (numbered (length images))

-- the place of the first image with a tag
abbrev pub place_of : List SeenImage → VolumeTag → Option ℕ
place_of images tag = position (λ image. same_tag image.tag tag) images

-- whether the image at a place can't be written
abbrev pub is_protected_at : List SeenImage → (place : ℕ) → Bool
is_protected_at images place = option_map_or (λ image. image.is_protected) (slice_get images place) false

-- of the tape whose image is at a place, if there is one; what can't be written is kept already
abbrev pub IsOfTape : List SeenImage → (place : Option ℕ) → Ticket → Type 0
IsOfTape images None asked = asked ≡ lost_ticket
IsOfTape images (Some place) asked =
    MatchBool (is_protected_at images place) (asked ≡ kept_ticket) (IsOfItem images (Tape place) asked)

-- of the volume that a command was carried out on, if there is one
abbrev pub IsOfVolume : List SeenImage → Option VolumeTag → Ticket → Type 0
IsOfVolume images None asked = asked ≡ kept_ticket
IsOfVolume images (Some tag) asked = IsOfTape images (place_of images tag) asked

-- of the tape whose image is at a place, if there is one, and of where the volumes lie
abbrev pub IsOfMoved : List SeenImage → (place : Option ℕ) → Ticket → Type 0
IsOfMoved images None asked = asked ≡ lost_ticket
IsOfMoved images (Some place) asked = IsOfItem images (Moved place) asked

-- of the volume that was moved, if one was, and of where the volumes lie
abbrev pub IsOfMove : List SeenImage → Option VolumeTag → Ticket → Type 0
IsOfMove images None asked = IsOfItem images Inventory asked
IsOfMove images (Some tag) asked = IsOfMoved images (place_of images tag) asked

-- what the reply to a command waits for, if it waits, where this is to be kept of the command
abbrev pub WaitsFor : List SeenImage → CarriedOutCommand → Wish → Option Ticket → Type 0
WaitsFor images command Nothing waits = waits ≡ None
WaitsFor images command Behind waits = IfSome waits (IsOfItem images (Backlog command.lun))
WaitsFor images command Volume waits = IsSomeAnd waits (IsOfVolume images command.volume)
WaitsFor images command VolumeBehind waits = waits ≡ None
WaitsFor images command Move waits = IsSomeAnd waits (IsOfMove images command.volume)
