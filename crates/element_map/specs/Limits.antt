use Rattle.std.specs.Prelude.{ℕ, ◌≤◌, List, length, Option}
use Rattle.tape_medium.specs.declared.volume.VolumeTag.{VolumeTag}
use Rattle.tape_medium.specs.declared.volume.Volume.{Volume}
use Rattle.element_map.specs.declared.element_type.ElementType.{ElementType}
use Rattle.element_map.specs.declared.element_type.ElementType.TheVariants.{MediumTransport, DataTransfer, ImportExport, Storage}

-- how many elements of each type there are at most (profile)
abbrev pub drive_limit : ℕ
drive_limit = 4

abbrev pub portal_limit : ℕ
portal_limit = 16

abbrev pub slot_limit : ℕ
slot_limit = 1024

pub record IsWithinLimits (data_transfer : List (Option VolumeTag)) (import_export storage : List (Option Volume)) : Type 0 where
  pub drives : length data_transfer ≤ drive_limit
  pub import_exports : length import_export ≤ portal_limit
  pub slots : length storage ≤ slot_limit

-- how many elements of a type there may be; there is one medium transport element
abbrev pub limit_of : ElementType → ℕ
limit_of MediumTransport = 1
limit_of DataTransfer = drive_limit
limit_of ImportExport = portal_limit
limit_of Storage = slot_limit
