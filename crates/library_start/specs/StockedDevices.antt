-- What contracts see of the units of the library.
use Rattle.std.specs.Prelude.{ℕ, zero, suc, ◌+◌, List, [], ◌∷◌, ◌++◌}
use Rattle.element_sources.specs.Sources.{none_known}
use Rattle.device_server.specs.View.{Drive, Changer}
use Rattle.logical_unit.specs.Step.{made}
use Rattle.logical_unit.specs.UnitView.{UnitView}
use Rattle.program_options.specs.declared.library_options.LibraryOptions.{LibraryOptions}
use Rattle.program_options.specs.declared.library_profile.LibraryProfile.{LibraryProfile}
use Rattle.library_start.specs.Profiles.{changer_with, drive_at}
use Rattle.library_start.specs.Stock.{stocked}

-- the first so many drives of a library with a count of units, empty at power on: the logical units from 1 on
abbrev pub drives_to : LibraryProfile → (drives count : ℕ) → List UnitView
drives_to profile zero count = []
drives_to profile (suc k) count = drives_to profile k count ++ made (Drive (drive_at profile (k + 1))) (k + 1) count 0 ∷ []

-- a changer with the elements and volumes of the options, as logical unit 0, which knows no source yet
abbrev pub stocked_changer : LibraryProfile → LibraryOptions → UnitView
stocked_changer profile options =
    made (Changer (changer_with profile (stocked options) (none_known options.drives options.import_exports options.slots))) 0 (options.drives + 1) 0

-- that changer, and drives
abbrev pub library_of : LibraryProfile → LibraryOptions → List UnitView
library_of profile options = stocked_changer profile options ∷ drives_to profile options.drives (options.drives + 1)
