-- Worked rows: the units of the library, of both profiles.
use Rattle.std.specs.Prelude.{ℕ, ◌≡◌, false, [], ◌∷◌, Some, None, codes}
use Rattle.device_server.specs.Drive.{empty_drive}
use Rattle.device_server.specs.View.{Drive, Changer}
use Rattle.tape_medium.specs.Tape.{blank}
use Rattle.tape_medium.specs.declared.volume.Volume.{Volume}
use Rattle.tape_medium.specs.declared.volume.VolumeTag.{VolumeTag}
use Rattle.logical_unit.specs.Step.{made}
use Rattle.program_options.specs.declared.library_options.LibraryOptions.{LibraryOptions}
use Rattle.program_options.specs.declared.library_profile.LibraryProfile.TheVariants.{Spec, Hosts}
use Rattle.device_server.specs.HostChanger.{spec_changer, host_view}
use Rattle.device_server.specs.HostDrive.{empty_host_drive}
use Rattle.element_sources.specs.Sources.{none_known}
use Rattle.inquiry_data.specs.declared.library_number.LibraryNumber.{LibraryNumber}
use Rattle.library_start.specs.StockedDevices.{library_of}
use Rattle.library_start.specs.Stock.{stocked, tag_of}

-- the usual library, and one of three drives with larger volumes: each unit is told how many there are
abbrev pub usual : LibraryOptions
usual = record { drives = 1; slots = 8; import_exports = 0; volumes = 1; volume_size = 16777216 }

abbrev pub larger : LibraryOptions
larger = record { drives = 3; slots = 2; import_exports = 1; volumes = 2; volume_size = 1073741824 }

abbrev pub first_tag : VolumeTag
first_tag = record { 0 = codes "VOL00001                        " }

abbrev pub second_tag : VolumeTag
second_tag = record { 0 = codes "VOL00002                        " }

abbrev pub empty_volume : (size : ℕ) → VolumeTag → Volume
empty_volume size tag = record { tag = tag; protected = false; tape = blank size }

-- the number of a library for hosts
abbrev pub one_number : LibraryNumber
one_number = record { number = 0x1A2B3C4D }

pub record UnitsOfTheLibrary : Type 0 where
  pub usual_changer : stocked usual
      ≡ record { data_transfer = None ∷ []; import_export = []; storage = Some (empty_volume 16777216 first_tag) ∷ None ∷ None ∷ None ∷ None ∷ None ∷ None ∷ None ∷ [] }
  pub larger_changer : stocked larger
      ≡ record { data_transfer = None ∷ None ∷ None ∷ []; import_export = None ∷ []; storage = Some (empty_volume 1073741824 first_tag) ∷ Some (empty_volume 1073741824 second_tag) ∷ [] }
  pub one_drive : library_of Spec usual ≡ made (Changer (spec_changer (stocked usual))) 0 2 0 ∷ made (Drive empty_drive) 1 2 0 ∷ []
  pub three_drives : library_of Spec larger
      ≡ made (Changer (spec_changer (stocked larger))) 0 4 0
      ∷ made (Drive empty_drive) 1 4 0
      ∷ made (Drive empty_drive) 2 4 0
      ∷ made (Drive empty_drive) 3 4 0
      ∷ []
  pub for_hosts : library_of (Hosts one_number) usual
      ≡ made (Changer (host_view (stocked usual) (record { identity = record { library_number = one_number; lun = 0 }; sources = none_known 1 0 8 }))) 0 2 0
      ∷ made (Drive (empty_host_drive (record { library_number = one_number; lun = 1 }))) 1 2 0
      ∷ []
  pub last_tag : tag_of 1024 ≡ record { 0 = codes "VOL01024                        " }
