-- What is among volumes and tags.
use Rattle.std.specs.Prelude.{◌==◌, Bool, false, List}
use Rattle.std.specs.List.{list_any}
use Rattle.tape_medium.specs.declared.volume.VolumeTag.{VolumeTag}
use Rattle.library_inventory.specs.declared.element.Element.{Element}
use Rattle.library_inventory.specs.declared.element.Element.TheVariants.{DataTransfer, Storage, ImportExport}
use Rattle.library_inventory.specs.declared.placed.PlacedVolume.{PlacedVolume}
use Rattle.library_inventory.specs.Tags.{same_tag}

abbrev pub same_element : Element → Element → Bool
same_element (DataTransfer a) (DataTransfer b) = a == b
same_element (Storage a) (Storage b) = a == b
same_element (ImportExport a) (ImportExport b) = a == b
same_element a b = false

-- a tag is among some; a volume of some has it; a volume of some lies in an element
abbrev pub has_tag : List VolumeTag → VolumeTag → Bool
has_tag tags tag = list_any (λ other. same_tag other tag) tags

abbrev pub is_named : List PlacedVolume → VolumeTag → Bool
is_named volumes tag = list_any (λ volume. same_tag volume.tag tag) volumes

abbrev pub is_full : List PlacedVolume → Element → Bool
is_full volumes element = list_any (λ volume. same_element volume.element element) volumes
