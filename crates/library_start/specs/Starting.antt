-- A library at power on, in whose elements volumes lie.
use Rattle.std.specs.Prelude.{◌≡◌, ℕ, ◌+◌, ◌<◌, true, List, [], ◌∷◌, length, slice_index_or, slice_set, Option, Some, None, Ok}
use Rattle.tape_medium.specs.Elements.{Elements, empty_elements, puts, notes, first_data_transfer, first_import_export, first_storage}
use Rattle.tape_medium.specs.declared.volume.Volume.{Volume}
use Rattle.device_server.specs.Drive.{DriveView, empty_drive, rewound}
use Rattle.element_sources.specs.Sources.{Sources}
use Rattle.device_server.specs.View.{Drive, Changer}
use Rattle.device_server.specs.declared.host_changer.HostChanger.{HostChanger}
use Rattle.logical_unit.specs.Step.{made}
use Rattle.logical_unit.specs.UnitView.{UnitView}
use Rattle.library_inventory.specs.declared.element.Element.{Element}
use Rattle.library_inventory.specs.declared.element.Element.TheVariants.{DataTransfer, Storage, ImportExport}
use Rattle.library_inventory.specs.declared.element.LibrarySize.{LibrarySize}
use Rattle.program_options.specs.declared.library_profile.LibraryProfile.{LibraryProfile}
use Rattle.library_start.specs.declared.start.StartedVolume.{StartedVolume}
use Rattle.library_start.specs.Profiles.{empty_drives, hosts_with, sources_at_start}

-- a changer's elements, and the drives in the order of theirs
pub record ShelvesView : Type 0 where
  pub elements : Elements
  pub drives : List DriveView

abbrev pub empty_shelves : LibraryProfile → LibrarySize → ShelvesView
empty_shelves profile size =
    record { elements = empty_elements size.drives size.import_exports size.slots; drives = empty_drives profile size.drives }

-- one that is put into a drive is loaded, at the beginning of its tape
abbrev pub loaded_with : DriveView → Volume → DriveView
loaded_with d volume = record d { bay = Some (rewound volume); loaded = true }

-- only an empty drive takes one
abbrev pub IsLoaded : DriveView → Volume → DriveView → Type 0
IsLoaded d volume after = (d.bay ≡ None) × (after ≡ loaded_with d volume)

-- a volume is put into an element; one in a drive is put into its bay, and noted at the changer
abbrev pub IsShelved : ShelvesView → Element → Volume → ShelvesView → Type 0
IsShelved s (Storage number) volume t = (puts s.elements (first_storage + number) volume ≡ Ok t.elements) × (t.drives ≡ s.drives)
IsShelved s (ImportExport number) volume t =
    (puts s.elements (first_import_export + number) volume ≡ Ok t.elements) × (t.drives ≡ s.drives)
IsShelved s (DataTransfer number) volume t =
    let d = slice_index_or s.drives number empty_drive in
    (number < length s.drives)
    × (d.bay ≡ None)
    × (t.drives ≡ slice_set s.drives number (loaded_with d volume))
    × (notes s.elements (first_data_transfer + number) (Some volume.tag) ≡ Ok t.elements)

-- one after another
abbrev pub AreShelved : ShelvesView → List StartedVolume → ShelvesView → Type 0
AreShelved s [] t = t ≡ s
AreShelved s (x ∷ others) t = (m : ShelvesView) × IsShelved s x.element x.volume m × AreShelved m others t

-- the drives as logical units from one on
abbrev pub drive_units : List DriveView → (lun units : ℕ) → List UnitView
drive_units [] lun units = []
drive_units (d ∷ others) lun units = made (Drive d) lun units 0 ∷ drive_units others (lun + 1) units

-- the changer, with what it keeps besides, and the drives, as so many logical units
abbrev pub units_over : Option HostChanger → (units : ℕ) → ShelvesView → List UnitView
units_over hosts units s = made (Changer (record { elements = s.elements; hosts = hosts })) 0 units 0 ∷ drive_units s.drives 1 units

abbrev pub library_at : LibraryProfile → Sources → LibrarySize → ShelvesView → List UnitView
library_at profile sources size s = units_over (hosts_with profile sources) (size.drives + 1) s

-- A LIBRARY OF A PROFILE IN WHOSE ELEMENTS THESE VOLUMES LIE
pub record IsLibraryOf (profile : LibraryProfile) (size : LibrarySize) (volumes : List StartedVolume) (units : List UnitView) : Type 0 where
  pub shelves : ShelvesView
  pub shelved : AreShelved (empty_shelves profile size) volumes shelves
  pub units_are : units ≡ library_at profile (sources_at_start size volumes) size shelves
