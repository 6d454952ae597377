-- Worked rows: which volume is at which place of a drive and of a changer, before and after what may happen to it.
use Rattle.std.specs.Prelude.{◌≡◌, ℕ, true, false, [], ◌∷◌, replicate, Option, Some, None}
use Rattle.scsi_cdb.specs.declared.request.Request.{Request}
use Rattle.scsi_cdb.specs.declared.request.Request.TheVariants.{TestUnitReady, Write, LoadUnload}
use Rattle.tape_medium.specs.declared.volume.VolumeTag.{VolumeTag}
use Rattle.tape_medium.specs.declared.volume.Volume.{Volume}
use Rattle.device_server.specs.Drive.{empty_drive}
use Rattle.device_server.specs.View.{DeviceView, Drive, performed, reset_of}
use Rattle.device_server.specs.Rows.{loaded, volume, block_and_mark, tape_of, one_block_read}
use Rattle.device_server.specs.ChangerRows.{library, cartridge, one_volume, two_volumes, move}
use Rattle.device_server.specs.Volumes.{volume_at, volumes_of, SameCartridge, SameVolume}

-- the volume at a place after a command with no data sent
abbrev pub volume_after : DeviceView → Request → (place : ℕ) → Option Volume
volume_after device request place = volume_at (performed device request []).0 place

-- the one place of a drive
pub record VolumeOfADrive (tag : VolumeTag) : Type 0 where
  pub full : volume_at (loaded tag 0 (block_and_mark 0)) 0 ≡ Some (volume tag (block_and_mark 0))
  pub elsewhere : volume_at (loaded tag 0 (block_and_mark 0)) 1 ≡ None
  pub empty : volume_at (Drive empty_drive) 0 ≡ None
  pub one : volumes_of (loaded tag 0 (block_and_mark 0)) ≡ volume tag (block_and_mark 0) ∷ []
  pub none : volumes_of (Drive empty_drive) ≡ []
  pub read : volume_after (loaded tag 0 (block_and_mark 0)) (one_block_read false 400) 0 ≡ Some (volume tag (block_and_mark 1))
  pub written : volume_at (performed (loaded tag 512 (tape_of 0 0)) (Write true 2) (replicate 1024 9)).0 0 ≡ Some (volume tag (tape_of 2 2))
  pub unload : volume_after (loaded tag 0 (block_and_mark 2)) (LoadUnload false false false) 0 ≡ Some (volume tag (block_and_mark 0))
  pub move : volume_after (loaded tag 0 (block_and_mark 2)) (move 0 1) 0 ≡ Some (volume tag (block_and_mark 2))
  pub reset : volume_at (reset_of (loaded tag 512 (block_and_mark 2))) 0 ≡ Some (volume tag (block_and_mark 0))

-- what of a volume is the same: where its tape stands is neither's, and what is on it is not the cartridge's
pub record SameVolumes (tag : VolumeTag) : Type 0 where
  pub read : SameVolume (volume tag (block_and_mark 0)) (volume tag (block_and_mark 1))
  pub written : SameCartridge (volume tag (tape_of 0 0)) (volume tag (tape_of 2 2))
  pub not_written : ¬ SameVolume (volume tag (tape_of 0 0)) (volume tag (tape_of 2 2))
  pub not_protected : ¬ SameCartridge (volume tag (tape_of 2 0)) (record { tag = tag; protected = true; tape = tape_of 2 0 })

-- the storage and import/export elements of a changer; the volume in a drive is the drive's own
pub record VolumesOfAChanger (a b : VolumeTag) : Type 0 where
  pub in_storage : volume_at (two_volumes a b) 0x400 ≡ Some (cartridge a)
  pub in_port : volume_at (two_volumes a b) 0x200 ≡ Some (cartridge b)
  pub in_no_storage : volume_at (two_volumes a b) 0x401 ≡ None
  pub in_drive : volume_at (library (Some b) None None None) 0x100 ≡ None
  pub in_transport : volume_at (two_volumes a b) 0 ≡ None
  pub nowhere : volume_at (two_volumes a b) 0x402 ≡ None
  pub all : volumes_of (two_volumes a b) ≡ cartridge b ∷ cartridge a ∷ []
  pub not_of_drives : volumes_of (library (Some b) None None None) ≡ []
  pub ready : volume_after (one_volume a) TestUnitReady 0x400 ≡ Some (cartridge a)
  pub moved : volume_after (two_volumes a b) (move 0x200 0x401) 0x401 ≡ Some (cartridge b)
  pub left : volume_after (two_volumes a b) (move 0x200 0x401) 0x200 ≡ None
  pub stays : volume_after (two_volumes a b) (move 0x200 0x401) 0x400 ≡ Some (cartridge a)
  pub refused : volume_after (two_volumes a b) (move 0x200 0x400) 0x200 ≡ Some (cartridge b)
  pub reset : volume_at (reset_of (two_volumes a b)) 0x200 ≡ Some (cartridge b)
