-- Worked rows: the marks of a drive and of a changer, before and after what may happen to them.
use Rattle.std.specs.Prelude.{◌≡◌, true, false, List, [], ◌∷◌, replicate, Option, Some, None}
use Rattle.scsi_cdb.specs.declared.request.Request.{Request}
use Rattle.scsi_cdb.specs.declared.request.Request.TheVariants.{TestUnitReady, Write, LoadUnload}
use Rattle.tape_medium.specs.declared.volume.VolumeTag.{VolumeTag}
use Rattle.device_server.specs.Drive.{empty_drive}
use Rattle.device_server.specs.HostChanger.{spec_changer}
use Rattle.device_server.specs.View.{DeviceView, Drive, Changer, performed, reset_of}
use Rattle.device_server.specs.Rows.{loaded, unloaded, block_and_mark, tape_of, one_block_read}
use Rattle.device_server.specs.ChangerRows.{library, cartridge, one_volume, move}
use Rattle.device_server.specs.Marks.{marks}

-- the marks after a command with no data sent
abbrev pub marks_after : DeviceView → Request → List (Option VolumeTag)
marks_after device request = marks (performed device request []).0

-- the tag of the volume in the bay, whether that is loaded or not
pub record MarksOfADrive (tag : VolumeTag) : Type 0 where
  pub full : marks (loaded tag 0 (block_and_mark 0)) ≡ Some tag ∷ []
  pub not_loaded : marks (unloaded tag 0 (block_and_mark 0)) ≡ Some tag ∷ []
  pub empty : marks (Drive empty_drive) ≡ None ∷ []
  pub read : marks_after (loaded tag 0 (block_and_mark 0)) (one_block_read false 400) ≡ Some tag ∷ []
  pub written : marks (performed (loaded tag 512 (tape_of 0 0)) (Write true 2) (replicate 1024 9)).0 ≡ Some tag ∷ []
  pub unload : marks_after (loaded tag 0 (block_and_mark 0)) (LoadUnload false false false) ≡ Some tag ∷ []
  pub load_nothing : marks_after (Drive empty_drive) (LoadUnload false false true) ≡ None ∷ []
  pub reset : marks (reset_of (loaded tag 512 (block_and_mark 2))) ≡ Some tag ∷ []

-- what is noted at the data transfer elements, whatever lies in the others
pub record MarksOfAChanger (a b : VolumeTag) : Type 0 where
  pub full : marks (library (Some b) None (Some (cartridge a)) None) ≡ Some b ∷ []
  pub empty : marks (one_volume a) ≡ None ∷ []
  pub two_drives : marks (Changer (spec_changer (record { data_transfer = None ∷ Some a ∷ []; import_export = []; storage = [] }))) ≡ None ∷ Some a ∷ []
  pub ready : marks_after (library (Some b) None (Some (cartridge a)) None) TestUnitReady ≡ Some b ∷ []
  pub moved : marks_after (library (Some b) None (Some (cartridge a)) None) (move 0x400 0x401) ≡ Some b ∷ []
  pub reset : marks (reset_of (library (Some b) None None None)) ≡ Some b ∷ []
