-- Elements and sources of worked rows.
use Rattle.std.specs.Prelude.{ℕ, Bool, [], ◌∷◌, ◌++◌, replicate, Some, None, codes}
use Rattle.tape_medium.specs.declared.volume.VolumeTag.{VolumeTag}
use Rattle.tape_medium.specs.Elements.{Elements}
use Rattle.tape_medium.specs.Rows.{cartridge}
use Rattle.inquiry_data.specs.declared.library_number.LibraryNumber.{LibraryNumber}
use Rattle.inquiry_data.specs.Identity.{library}
use Rattle.element_sources.specs.declared.status_request.StatusRequest.{StatusRequest}
use Rattle.element_sources.specs.Sources.{Sources, none_known, source_known, source_moved}

abbrev pub one_library : LibraryNumber
one_library = library 0x1A2B3C4D

abbrev pub first_volume : VolumeTag
first_volume = record { 0 = codes "VOL00001" ++ replicate 24 0x20 }

abbrev pub second_volume : VolumeTag
second_volume = record { 0 = codes "VOL00002" ++ replicate 24 0x20 }

-- elements of one type, or of all at 0, from the lowest address on
abbrev pub asked : (element_type_code : ℕ) → (volume_tags device_identifiers : Bool) → StatusRequest
asked element_type_code volume_tags device_identifiers =
    record {
      element_type_code = element_type_code;
      starting_element_address = 0;
      number_of_elements = 0xFFFF;
      volume_tags = volume_tags;
      device_identifiers = device_identifiers;
    }

-- one drive, one import/export and three storage elements: the first volume in 0400h, and the second, which was in 0401h, in the drive
abbrev pub in_drive : Elements
in_drive =
    record {
      data_transfer = Some second_volume ∷ [];
      import_export = None ∷ [];
      storage = Some (cartridge first_volume) ∷ None ∷ None ∷ [];
    }

abbrev pub in_drive_sources : Sources
in_drive_sources = source_moved (none_known 1 1 3) 0x401 0x100

-- then the second in 0402h
abbrev pub after_drive : Elements
after_drive =
    record {
      data_transfer = None ∷ [];
      import_export = None ∷ [];
      storage = Some (cartridge first_volume) ∷ None ∷ Some (cartridge second_volume) ∷ [];
    }

abbrev pub after_drive_sources : Sources
after_drive_sources = source_moved in_drive_sources 0x100 0x402

-- two drives crossed: the second volume, from 0401h, in the first drive and the first, from 0400h, in the second
abbrev pub crossed : Elements
crossed =
    record { data_transfer = Some second_volume ∷ Some first_volume ∷ []; import_export = []; storage = None ∷ None ∷ [] }

abbrev pub crossed_sources : Sources
crossed_sources = source_moved (source_moved (none_known 2 0 2) 0x401 0x100) 0x400 0x101

-- a library that is started with a volume in its drive that was in 0402h before
abbrev pub started_sources : Sources
started_sources = source_known (none_known 1 1 3) 0x100 0x402
