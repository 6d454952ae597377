-- Worked rows: a library of one drive and two slots, with a volume in a slot and one in the drive.
use Rattle.std.specs.Prelude.{ℕ, true, false, List, [], ◌∷◌, Some, None}
use Rattle.tape_medium.specs.Object.{Mark}
use Rattle.tape_medium.specs.declared.volume.VolumeTag.{VolumeTag}
use Rattle.tape_medium.specs.declared.volume.Volume.{Volume}
use Rattle.device_server.specs.Drive.{DriveView, empty_drive}
use Rattle.device_server.specs.HostChanger.{ChangerView, host_view}
use Rattle.device_server.specs.HostDrive.{empty_host_drive}
use Rattle.inquiry_data.specs.declared.library_number.LibraryNumber.{LibraryNumber}
use Rattle.library_inventory.specs.declared.element.Element.TheVariants.{DataTransfer, Storage}
use Rattle.library_inventory.specs.declared.element.LibrarySize.{LibrarySize}
use Rattle.library_start.specs.declared.start.StartedVolume.{StartedVolume}
use Rattle.library_start.specs.Starting.{ShelvesView}

-- two filemarks
abbrev pub two_marks : VolumeTag → (position : ℕ) → Volume
two_marks tag position = record {
  tag = tag;
  protected = false;
  tape = record { objects = Mark ∷ Mark ∷ []; position = position; capacity = 10; unchanged = 2 };
}

abbrev pub one_drive : LibrarySize
one_drive = record { drives = 1; slots = 2; import_exports = 0 }

abbrev pub in_slot_and_drive : (a b : VolumeTag) → List StartedVolume
in_slot_and_drive a b =
    record { element = Storage 1; source = None; volume = two_marks a 2 } ∷ record { element = DataTransfer 0; source = None; volume = two_marks b 2 } ∷ []

-- the first of them in its slot
abbrev pub with_one : VolumeTag → ShelvesView
with_one a = record {
  elements = record { data_transfer = None ∷ []; import_export = []; storage = None ∷ Some (two_marks a 2) ∷ [] };
  drives = empty_drive ∷ [];
}

-- and the other in the drive, at the beginning of its tape
abbrev pub loaded_drive : VolumeTag → DriveView
loaded_drive b = record { bay = Some (two_marks b 0); loaded = true; block_length = 0; hosts = None }

abbrev pub with_both : (a b : VolumeTag) → ShelvesView
with_both a b = record {
  elements = record { data_transfer = Some b ∷ []; import_export = []; storage = None ∷ Some (two_marks a 2) ∷ [] };
  drives = loaded_drive b ∷ [];
}

-- the same volumes in a library for hosts; the one in the drive was in the first slot before
abbrev pub one_number : LibraryNumber
one_number = record { number = 0x1A2B3C4D }

abbrev pub from_slot_in_drive : (a b : VolumeTag) → List StartedVolume
from_slot_in_drive a b =
    record { element = Storage 1; source = None; volume = two_marks a 2 } ∷ record { element = DataTransfer 0; source = Some (Storage 0); volume = two_marks b 2 }
    ∷ []

abbrev pub host_drive : DriveView
host_drive = empty_host_drive (record { library_number = one_number; lun = 1 })

abbrev pub loaded_host_drive : VolumeTag → DriveView
loaded_host_drive b = record host_drive { bay = Some (two_marks b 0); loaded = true }

abbrev pub with_one_for_hosts : VolumeTag → ShelvesView
with_one_for_hosts a = record { elements = (with_one a).elements; drives = host_drive ∷ [] }

abbrev pub with_both_for_hosts : (a b : VolumeTag) → ShelvesView
with_both_for_hosts a b = record { elements = (with_both a b).elements; drives = loaded_host_drive b ∷ [] }

abbrev pub sourced_changer : (a b : VolumeTag) → ChangerView
sourced_changer a b =
    host_view (with_both a b).elements (record {
      identity = record { library_number = one_number; lun = 0 };
      sources = record { data_transfer = Some 0x400 ∷ []; import_export = []; storage = None ∷ None ∷ [] };
    })
