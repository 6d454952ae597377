-- Worked rows: what a host gets from a drive of the hosts' profile, byte by byte, and the drive after it.
use Rattle.std.specs.Prelude.{◌≡◌, ℕ, true, false, List, [], ◌∷◌, ◌++◌, length, replicate, Some, None}
use Rattle.scsi_cdb.specs.declared.host_request.HostRequest.TheVariants.{SendDiagnostic, LogSelect, LogSense, ModeSelect10, ModeSense10, ReportSupportedOperationCodes, ReportSupportedTaskManagementFunctions, PositionToElement, InitializeElementStatusWithRange}
use Rattle.scsi_cdb.specs.declared.kind.Kind.TheVariants as kind
use Rattle.scsi_cdb.specs.declared.profile.Profile.TheVariants.{Spec, Hosts}
use Rattle.scsi_cdb.specs.Kinds.{commands}
use Rattle.scsi_cdb.specs.declared.request.Request.TheVariants.{TestUnitReady, ReadBlockLimits, Read, Write, WriteFilemarks, ModeSelect, ModeSense, LoadUnload, Locate, ReadPosition, Host}
use Rattle.scsi_sense.specs.declared.condition.Condition.TheVariants.{InvalidFieldInCdb}
use Rattle.scsi_sense.specs.CarriedOut.{is_carried_out}
use Rattle.scsi_sense.specs.declared.status.Status.TheVariants.{CheckCondition}
use Rattle.tape_medium.specs.Object.{Object, Block, Mark}
use Rattle.tape_medium.specs.Tape.{blank}
use Rattle.tape_medium.specs.TapeView.{TapeView}
use Rattle.tape_medium.specs.declared.volume.VolumeTag.{VolumeTag}
use Rattle.inquiry_data.specs.Identity as identity
use Rattle.inquiry_data.specs.declared.unit_identity.UnitIdentity.{UnitIdentity}
use Rattle.unit_attention.specs.declared.kind.Kind.TheVariants.{MediumChanged, ModeParametersChanged, LogParametersChanged}
use Rattle.device_server.specs.declared.host_drive.HostDrive.{HostDrive}
use Rattle.device_server.specs.Drive.{is_fixed_transfer}
use Rattle.device_server.specs.EarlyWarning.{zone, is_near_the_end, early_warning}
use Rattle.device_server.specs.FieldFaults.{field_fault_of}
use Rattle.device_server.specs.Hosts.{new_host_drive}
use Rattle.device_server.specs.HostDrive.{empty_host_drive}
use Rattle.device_server.specs.Senses as senses
use Rattle.device_server.specs.View.{DeviceView, Drive, identity_of, profile_of, reset_of}
use Rattle.device_server.specs.Rows as rows
use Rattle.device_server.specs.Rows.{asked, sent, gives, checks, selects, sense, volume, block_and_mark, not_present, not_loaded}

-- the first drive of library 1A2B3C4Dh
abbrev pub first_drive : UnitIdentity
first_drive = identity.unit (identity.library 0x1A2B3C4D) 1

-- what it keeps: after power on, with a volume that is held, without compression
abbrev pub fresh : HostDrive
fresh = new_host_drive first_drive

abbrev pub held : HostDrive
held = record fresh { held = true }

abbrev pub uncompressed : HostDrive
uncompressed = record fresh { compression = false }

-- after so many bytes written, passed by READ, and sent
abbrev pub counting : (written passed sent : ℕ) → HostDrive
counting written passed sent = record fresh {
  counters = record {
    write_bytes_processed = written;
    read_bytes_processed = passed;
    data_bytes_received = written;
    data_bytes_read = passed;
    data_bytes_sent = sent;
  };
}

-- with a volume that is loaded, and with one that isn't
abbrev pub loaded : VolumeTag → HostDrive → (block_length : ℕ) → TapeView → DeviceView
loaded tag h block_length tape = Drive (record { bay = Some (volume tag tape); loaded = true; block_length = block_length; hosts = Some h })

abbrev pub unloaded : VolumeTag → HostDrive → TapeView → DeviceView
unloaded tag h tape = Drive (record { bay = Some (volume tag tape); loaded = false; block_length = 0; hosts = Some h })

abbrev pub empty : DeviceView
empty = Drive (empty_host_drive first_drive)

abbrev pub wrong_field : List ℕ
wrong_field = sense 0x70 0x05 0x00 0x00 0x00 0x00 0x24 0x00

abbrev pub no_command : List ℕ
no_command = sense 0x70 0x05 0x00 0x00 0x00 0x00 0x20 0x00

-- a volume that is ejected is as none, one that is held isn't ready, and the others are told of one that is loaded
pub record ReadinessForHosts (tag : VolumeTag) : Type 0 where
  pub profile : profile_of empty ≡ Hosts
  pub identity : identity_of empty ≡ Some first_drive
  pub no_volume : asked empty TestUnitReady ≡ checks empty [] not_present
  pub load_nothing : asked empty (LoadUnload false false true) ≡ checks empty [] not_present
  pub unload : asked (loaded tag fresh 0 (block_and_mark 2)) (LoadUnload false false false) ≡ gives (unloaded tag fresh (block_and_mark 0)) []
  pub ejected : asked (unloaded tag fresh (block_and_mark 0)) TestUnitReady ≡ checks (unloaded tag fresh (block_and_mark 0)) [] not_present
  pub no_position : asked (unloaded tag fresh (block_and_mark 0)) ReadPosition ≡ checks (unloaded tag fresh (block_and_mark 0)) [] not_present
  pub load : asked (unloaded tag fresh (block_and_mark 0)) (LoadUnload false false true)
      ≡ selects (loaded tag fresh 0 (block_and_mark 0)) (Some MediumChanged)
  pub hold : asked (loaded tag fresh 0 (block_and_mark 2)) (LoadUnload true false false) ≡ gives (unloaded tag held (block_and_mark 0)) []
  pub not_ready : asked (unloaded tag held (block_and_mark 0)) TestUnitReady ≡ checks (unloaded tag held (block_and_mark 0)) [] not_loaded
  pub load_held : asked (unloaded tag held (block_and_mark 0)) (LoadUnload false false true)
      ≡ selects (loaded tag fresh 0 (block_and_mark 0)) (Some MediumChanged)
  pub eject_held : asked (unloaded tag held (block_and_mark 0)) (LoadUnload false false false) ≡ gives (unloaded tag fresh (block_and_mark 0)) []
  pub load_again : asked (loaded tag fresh 0 (block_and_mark 2)) (LoadUnload false false true) ≡ gives (loaded tag fresh 0 (block_and_mark 0)) []
  pub hold_and_load : asked (unloaded tag held (block_and_mark 0)) (LoadUnload true false true)
      ≡ checks (unloaded tag held (block_and_mark 0)) [] wrong_field
  pub end_of_tape : asked (loaded tag fresh 0 (block_and_mark 2)) (LoadUnload false true false)
      ≡ checks (loaded tag fresh 0 (block_and_mark 2)) [] wrong_field
  pub ejected_stays : reset_of (unloaded tag held (block_and_mark 0)) ≡ unloaded tag held (block_and_mark 0)

-- four filemarks
abbrev pub four_marks : (position : ℕ) → TapeView
four_marks position = record (blank 10) { objects = replicate 4 Mark; position = position }

-- LOCATE by block addresses of either type and with partition 0, and READ POSITION
pub record PositionsForHosts (tag : VolumeTag) : Type 0 where
  pub by_block_address : asked (loaded tag fresh 0 (four_marks 0)) (Locate true false 3 0) ≡ gives (loaded tag fresh 0 (four_marks 3)) []
  pub there : asked (loaded tag fresh 0 (four_marks 3)) ReadPosition
      ≡ gives (loaded tag fresh 0 (four_marks 3))
      (0x00 ∷ 0x00 ∷ 0x00 ∷ 0x00 ∷ 0x00 ∷ 0x00 ∷ 0x00 ∷ 0x03 ∷ 0x00 ∷ 0x00 ∷ 0x00 ∷ 0x03 ∷ replicate 8 0)
  pub at_start : asked (loaded tag fresh 0 (four_marks 0)) ReadPosition ≡ gives (loaded tag fresh 0 (four_marks 0)) (0x80 ∷ replicate 19 0)
  pub first_partition : asked (loaded tag fresh 0 (four_marks 3)) (Locate false true 1 0) ≡ gives (loaded tag fresh 0 (four_marks 1)) []
  pub other_partition : asked (loaded tag fresh 0 (four_marks 3)) (Locate false true 1 1) ≡ checks (loaded tag fresh 0 (four_marks 3)) [] wrong_field
  pub no_partition : asked (loaded tag fresh 0 (four_marks 3)) (Locate false false 1 1) ≡ gives (loaded tag fresh 0 (four_marks 1)) []
  pub limits : asked empty ReadBlockLimits ≡ gives empty (0x00 ∷ 0x10 ∷ 0x00 ∷ 0x00 ∷ 0x00 ∷ 0x01 ∷ [])

-- a block descriptor of blocks of any length, then the Data Compression page without DCE
abbrev pub compression_off : List ℕ
compression_off = replicate 8 0
    ++ 0x0F ∷ 0x0E ∷ 0x40 ∷ 0x80 ∷ 0x00 ∷ 0x00 ∷ 0x00 ∷ 0xFF ∷ 0x00 ∷ 0x00 ∷ 0x00 ∷ 0xFF ∷ 0x00 ∷ 0x00 ∷ 0x00 ∷ 0x00 ∷ []

-- MODE SELECT of compression, by both lengths, and MODE SENSE
pub record ModesForHosts (tag : VolumeTag) : Type 0 where
  pub off : sent (loaded tag fresh 0 (four_marks 1)) (ModeSelect false 28) (0x00 ∷ 0x00 ∷ 0x10 ∷ 0x08 ∷ compression_off)
      ≡ selects (loaded tag uncompressed 0 (four_marks 1)) (Some ModeParametersChanged)
  pub again : sent (loaded tag uncompressed 0 (four_marks 1)) (ModeSelect false 28) (0x00 ∷ 0x00 ∷ 0x10 ∷ 0x08 ∷ compression_off)
      ≡ selects (loaded tag uncompressed 0 (four_marks 1)) None
  pub off_by_ten : sent (loaded tag fresh 512 (four_marks 1)) (Host (ModeSelect10 false 32)) (0x00 ∷ 0x00 ∷ 0x00 ∷ 0x10 ∷ 0x00 ∷ 0x00 ∷ 0x00 ∷ 0x08 ∷ compression_off)
      ≡ selects (loaded tag uncompressed 0 (four_marks 1)) (Some ModeParametersChanged)
  pub block_length : sent (loaded tag fresh 0 (four_marks 1)) (ModeSelect false 12) (0x00 ∷ 0x00 ∷ 0x10 ∷ 0x08 ∷ replicate 6 0 ++ 0x02 ∷ 0x00 ∷ [])
      ≡ selects (loaded tag fresh 512 (four_marks 1)) (Some ModeParametersChanged)
  pub longest_blocks : sent (loaded tag fresh 0 (four_marks 1)) (ModeSelect false 12) (0x00 ∷ 0x00 ∷ 0x10 ∷ 0x08 ∷ replicate 5 0 ++ 0x10 ∷ 0x00 ∷ 0x00 ∷ [])
      ≡ selects (loaded tag fresh 1048576 (four_marks 1)) (Some ModeParametersChanged)
  pub too_long_blocks : sent (loaded tag fresh 0 (four_marks 1)) (ModeSelect false 12) (0x00 ∷ 0x00 ∷ 0x10 ∷ 0x08 ∷ replicate 5 0 ++ 0x10 ∷ 0x00 ∷ 0x01 ∷ [])
      ≡ checks (loaded tag fresh 0 (four_marks 1)) [] (sense 0x70 0x05 0x00 0x00 0x00 0x00 0x26 0x00)
  pub no_list : asked (loaded tag uncompressed 512 (four_marks 1)) (ModeSelect false 0) ≡ selects (loaded tag uncompressed 512 (four_marks 1)) None
  pub configuration : asked (loaded tag uncompressed 0 (four_marks 1)) (ModeSense true 0 0x10 0x00 255)
      ≡ gives (loaded tag uncompressed 0 (four_marks 1))
      (0x13 ∷ 0x80 ∷ 0x10 ∷ 0x00 ∷ 0x10 ∷ 0x0E ∷ 0x00 ∷ 0x00 ∷ 0x00 ∷ 0x00 ∷ 0x00 ∷ 0x00 ∷ 0x40 ∷ 0x00 ∷ 0x18 ∷ 0x00 ∷ 0x00 ∷ 0x00 ∷ 0x00 ∷ 0x08 ∷ [])
  pub compression : asked (loaded tag fresh 0 (four_marks 1)) (ModeSense false 0 0x0F 0x00 255)
      ≡ gives (loaded tag fresh 0 (four_marks 1))
      (0x1B ∷ 0x80 ∷ 0x10 ∷ 0x08 ∷ replicate 8 0
      ++ 0x0F ∷ 0x0E ∷ 0xC0 ∷ 0x80 ∷ 0x00 ∷ 0x00 ∷ 0x00 ∷ 0xFF ∷ 0x00 ∷ 0x00 ∷ 0x00 ∷ 0xFF ∷ 0x00 ∷ 0x00 ∷ 0x00 ∷ 0x00 ∷ [])
  pub by_ten : asked (loaded tag fresh 512 (four_marks 1)) (Host (ModeSense10 false 0 0x00 0x00 16))
      ≡ gives (loaded tag fresh 512 (four_marks 1)) (0x00 ∷ 0x0E ∷ 0x80 ∷ 0x10 ∷ 0x00 ∷ 0x00 ∷ 0x00 ∷ 0x08 ∷ replicate 6 0 ++ 0x02 ∷ 0x00 ∷ [])
  pub nothing_there : asked empty (ModeSense true 0 0x00 0x00 255) ≡ gives empty (0x03 ∷ 0x00 ∷ 0x10 ∷ 0x00 ∷ [])
  pub no_such_page : asked empty (ModeSense true 0 0x18 0x00 255) ≡ checks empty [] wrong_field
  pub saved : asked empty (Host (ModeSense10 true 3 0x00 0x00 255)) ≡ checks empty [] (sense 0x70 0x05 0x00 0x00 0x00 0x00 0x39 0x00)
  pub reset : reset_of (loaded tag uncompressed 512 (four_marks 1)) ≡ loaded tag fresh 0 (four_marks 0)

-- a tape with blocks of 400 bytes
abbrev pub blocks : (count position : ℕ) → TapeView
blocks count position = record (blank 1000) { objects = replicate count (Block (replicate 400 7)); position = position }

-- what WRITE and READ count, and LOG SELECT resets
pub record CountersForHosts (tag : VolumeTag) : Type 0 where
  pub written : sent (loaded tag (counting 100 20 3) 0 (blocks 1 1)) (Write false 400) (replicate 400 7) ≡ gives (loaded tag (counting 500 20 3) 0 (blocks 2 2)) []
  pub not_written : sent (loaded tag (counting 100 20 3) 0 (blocks 2 2)) (Write false 400) (replicate 400 7)
      ≡ checks (loaded tag (counting 100 20 3) 0 (blocks 2 2)) [] (sense 0xf0 0x4d 0x00 0x00 0x01 0x90 0x00 0x02)
  pub read : asked (loaded tag (counting 100 20 3) 0 (blocks 2 1)) (Read false false 400)
      ≡ gives (loaded tag (counting 100 420 403) 0 (blocks 2 2)) (replicate 400 7)
  pub part_read : asked (loaded tag (counting 100 20 3) 0 (blocks 2 1)) (Read true false 300)
      ≡ gives (loaded tag (counting 100 420 303) 0 (blocks 2 2)) (replicate 300 7)
  pub two_read : asked (loaded tag (counting 100 20 3) 400 (blocks 2 0)) (Read false true 2)
      ≡ gives (loaded tag (counting 100 820 803) 400 (blocks 2 2)) (replicate 800 7)
  pub marks : asked (loaded tag (counting 100 20 3) 0 (blocks 0 0)) (WriteFilemarks false false 4)
      ≡ gives (loaded tag (counting 100 20 3) 0 (record (blank 1000) { objects = replicate 4 Mark; position = 4 })) []
  pub all_reset : asked (loaded tag (counting 100 20 3) 0 (blocks 2 1)) (Host (LogSelect true false 3 0x00 0x00 0))
      ≡ selects (loaded tag fresh 0 (blocks 2 1)) (Some LogParametersChanged)
  pub nothing_reset : asked (loaded tag (counting 100 20 3) 0 (blocks 2 1)) (Host (LogSelect false false 3 0x00 0x00 0))
      ≡ selects (loaded tag (counting 100 20 3) 0 (blocks 2 1)) None
  pub nothing_set : sent (loaded tag (counting 100 20 3) 0 (blocks 2 1)) (Host (LogSelect false false 3 0x00 0x00 1)) (0x00 ∷ [])
      ≡ checks (loaded tag (counting 100 20 3) 0 (blocks 2 1)) [] (sense 0x70 0x05 0x00 0x00 0x00 0x00 0x26 0x00)
  pub reset_keeps : reset_of (loaded tag (counting 100 20 3) 0 (blocks 2 1)) ≡ loaded tag (counting 100 20 3) 0 (blocks 2 0)

-- LOG SENSE: the write error counters, the capacity with nothing in the bay, all TapeAlert flags
pub record LogsForHosts (tag : VolumeTag) : Type 0 where
  pub writes : asked (loaded tag (counting 0x102 20 3) 0 (blocks 2 1)) (Host (LogSense false false 1 0x02 0x00 5 255))
      ≡ gives (loaded tag (counting 0x102 20 3) 0 (blocks 2 1))
      (0x02 ∷ 0x00 ∷ 0x00 ∷ 0x14 ∷ 0x00 ∷ 0x05 ∷ 0x03 ∷ 0x08 ∷ 0x00 ∷ 0x00 ∷ 0x00 ∷ 0x00 ∷ 0x00 ∷ 0x00 ∷ 0x01 ∷ 0x02
      ∷ 0x00 ∷ 0x06 ∷ 0x03 ∷ 0x04 ∷ 0x00 ∷ 0x00 ∷ 0x00 ∷ 0x00 ∷ [])
  pub no_capacity : asked empty (Host (LogSense false false 0 0x31 0x00 0 36)) ≡ gives empty
      (0x31 ∷ 0x00 ∷ 0x00 ∷ 0x20 ∷ 0x00 ∷ 0x01 ∷ 0x03 ∷ 0x04 ∷ 0x00 ∷ 0x00 ∷ 0x00 ∷ 0x00 ∷ 0x00 ∷ 0x02 ∷ 0x03 ∷ 0x04 ∷ 0x00 ∷ 0x00 ∷ 0x00 ∷ 0x00
      ∷ 0x00 ∷ 0x03 ∷ 0x03 ∷ 0x04 ∷ 0x00 ∷ 0x00 ∷ 0x00 ∷ 0x00 ∷ 0x00 ∷ 0x04 ∷ 0x03 ∷ 0x04 ∷ 0x00 ∷ 0x00 ∷ 0x00 ∷ 0x00 ∷ [])
  pub flags : asked empty (Host (LogSense false false 0 0x2E 0x00 0 9))
      ≡ gives empty (0x2E ∷ 0x00 ∷ 0x01 ∷ 0x40 ∷ 0x00 ∷ 0x01 ∷ 0x03 ∷ 0x01 ∷ 0x00 ∷ [])
  pub all_flags : length (asked empty (Host (LogSense false false 0 0x2E 0x00 0 324))).payload ≡ 324
  pub no_such_page : asked empty (Host (LogSense false false 0 0x0D 0x00 0 255)) ≡ checks empty [] wrong_field
  pub past_the_last : asked empty (Host (LogSense false false 0 0x31 0x00 5 255)) ≡ checks empty [] wrong_field

-- which commands and task management functions there are, and SEND DIAGNOSTIC
pub record CommandsForHosts : Type 0 where
  pub read : asked empty (Host (ReportSupportedOperationCodes false 1 0x08 0 255))
      ≡ gives empty (0x00 ∷ 0x03 ∷ 0x00 ∷ 0x06 ∷ 0x08 ∷ 0x03 ∷ 0xFF ∷ 0xFF ∷ 0xFF ∷ 0x04 ∷ [])
  pub unknown : asked empty (Host (ReportSupportedOperationCodes false 1 0xE5 0 255)) ≡ gives empty (0x00 ∷ 0x01 ∷ 0x00 ∷ 0x00 ∷ [])
  pub with_service_actions : asked empty (Host (ReportSupportedOperationCodes false 1 0x5E 0 255)) ≡ checks empty [] wrong_field
  pub reserved_options : asked empty (Host (ReportSupportedOperationCodes false 4 0x08 0 255)) ≡ checks empty [] wrong_field
  pub task_management : asked empty (Host (ReportSupportedTaskManagementFunctions false 255)) ≡ gives empty (0xCA ∷ 0x00 ∷ 0x00 ∷ 0x00 ∷ [])
  pub self_test : asked empty (Host (SendDiagnostic 0 true 0)) ≡ gives empty []
  pub other_self_test : asked empty (Host (SendDiagnostic 1 false 0)) ≡ checks empty [] wrong_field
  pub page_sent : asked empty (Host (SendDiagnostic 0 false 4)) ≡ checks empty [] wrong_field
  pub positioned : asked empty (Host (PositionToElement 0 0x100 false)) ≡ checks empty [] no_command
  pub initialized : asked empty (Host (InitializeElementStatusWithRange false true 0x100 1)) ≡ checks empty [] no_command

-- how many bytes one command moves, in either profile: 64 KiB and 1 MiB, in one block or in blocks of the mode's length
pub record TransfersForHosts (tag : VolumeTag) : Type 0 where
  pub longest : (bytes : List ℕ) → length bytes ≡ 1048576 → field_fault_of (commands Hosts kind.Drive) (Write false 1048576) bytes ≡ None
  pub longer : field_fault_of (commands Hosts kind.Drive) (Write false 1048577) (replicate 4 7) ≡ Some InvalidFieldInCdb
  pub longer_in_spec : field_fault_of (commands Spec kind.Drive) (Write false 1048576) (replicate 4 7) ≡ Some InvalidFieldInCdb
  pub other_length : field_fault_of (commands Hosts kind.Drive) (Write false 5) (replicate 4 7) ≡ Some InvalidFieldInCdb
  pub fixed : is_fixed_transfer Hosts 512 2048 ≡ true
  pub fixed_longer : is_fixed_transfer Hosts 512 2049 ≡ false
  pub fixed_in_spec : is_fixed_transfer Spec 512 128 ≡ true
  pub fixed_longer_in_spec : is_fixed_transfer Spec 512 129 ≡ false
  pub no_length : is_fixed_transfer Hosts 0 1 ≡ false
  pub refused : asked (loaded tag fresh 512 (four_marks 0)) (Read false true 2049) ≡ checks (loaded tag fresh 512 (four_marks 0)) [] wrong_field
  pub not_refused : asked (loaded tag fresh 512 (four_marks 0)) (Read false true 2048)
      ≡ checks (loaded tag fresh 512 (four_marks 1)) [] (sense 0xf0 0x80 0x00 0x00 0x08 0x00 0x00 0x01)

-- where the early-warning zone begins: 2 MiB before the end of 16 MiB, 4 of 32, 8 of 1 GiB, and 256 of 64 GiB
pub record ZonesOfVolumes : Type 0 where
  pub of_16_mebibytes : zone 16777216 ≡ 2097152
  pub of_32_mebibytes : zone 33554432 ≡ 4194304
  pub of_a_gibibyte : zone 1073741824 ≡ 8388608
  pub of_64_gibibytes : zone 68719476736 ≡ 268435456
  pub of_7_bytes : zone 7 ≡ 0
  pub before_it : is_near_the_end 16777216 14680064 1 ≡ false
  pub in_it : is_near_the_end 16777216 14680065 1 ≡ true
  pub at_the_start : is_near_the_end 7 0 0 ≡ false
  pub of_7_bytes_at_the_end : is_near_the_end 7 7 7 ≡ false
  pub objects_left : is_near_the_end 68719476736 0 16773120 ≡ false
  pub few_objects_left : is_near_the_end 68719476736 0 16773121 ≡ true

-- a tape for 80 bytes, the zone of which has 10, with one block and so many more objects
abbrev pub nearly_full : (first : ℕ) → List Object → (position : ℕ) → TapeView
nearly_full first more position = record (blank 80) { objects = Block (replicate first 7) ∷ more; position = position }

abbrev pub warning : List ℕ
warning = sense 0xf0 0x40 0x00 0x00 0x00 0x00 0x00 0x02

-- a write that leaves the position in the zone is carried out and warned, each time, until the tape is full; nothing else is
pub record EarlyWarnings (tag : VolumeTag) : Type 0 where
  pub up_to_the_zone : sent (loaded tag fresh 0 (nearly_full 69 [] 1)) (Write false 1) (1 ∷ [])
      ≡ gives (loaded tag (counting 1 0 0) 0 (nearly_full 69 (Block (1 ∷ []) ∷ []) 2)) []
  pub into_the_zone : sent (loaded tag fresh 0 (nearly_full 70 [] 1)) (Write false 1) (1 ∷ [])
      ≡ checks (loaded tag (counting 1 0 0) 0 (nearly_full 70 (Block (1 ∷ []) ∷ []) 2)) [] warning
  pub of_blocks : sent (loaded tag fresh 2 (nearly_full 70 [] 1)) (Write true 2) (1 ∷ 2 ∷ 3 ∷ 4 ∷ [])
      ≡ checks (loaded tag (counting 4 0 0) 2 (nearly_full 70 (Block (1 ∷ 2 ∷ []) ∷ Block (3 ∷ 4 ∷ []) ∷ []) 3)) [] warning
  pub of_marks : asked (loaded tag fresh 0 (nearly_full 71 [] 1)) (WriteFilemarks false false 1)
      ≡ checks (loaded tag fresh 0 (nearly_full 71 (Mark ∷ []) 2)) [] warning
  pub of_no_marks : asked (loaded tag fresh 0 (nearly_full 71 [] 1)) (WriteFilemarks false false 0) ≡ gives (loaded tag fresh 0 (nearly_full 71 [] 1)) []
  pub of_no_block : asked (loaded tag fresh 0 (nearly_full 71 [] 1)) (Write false 0) ≡ gives (loaded tag fresh 0 (nearly_full 71 [] 1)) []
  pub to_the_end : sent (loaded tag fresh 0 (nearly_full 78 [] 1)) (Write false 2) (1 ∷ 2 ∷ [])
      ≡ checks (loaded tag (counting 2 0 0) 0 (nearly_full 78 (Block (1 ∷ 2 ∷ []) ∷ []) 2)) [] warning
  pub full : sent (loaded tag fresh 0 (nearly_full 79 [] 1)) (Write false 2) (1 ∷ 2 ∷ [])
      ≡ checks (loaded tag fresh 0 (nearly_full 79 [] 1)) [] (sense 0xf0 0x4d 0x00 0x00 0x00 0x02 0x00 0x02)
  pub from_the_start : sent (loaded tag fresh 0 (nearly_full 79 [] 0)) (Write false 1) (1 ∷ [])
      ≡ gives (loaded tag (counting 1 0 0) 0 (record (blank 80) { objects = Block (1 ∷ []) ∷ []; position = 1 })) []
  pub by_a_read : asked (loaded tag fresh 0 (nearly_full 71 [] 0)) (Read false false 71) ≡ gives (loaded tag (counting 0 71 71) 0 (nearly_full 71 [] 1)) (replicate 71 7)
  pub position_there : asked (loaded tag fresh 0 (nearly_full 71 [] 1)) ReadPosition
      ≡ gives (loaded tag fresh 0 (nearly_full 71 [] 1))
      (0x40 ∷ 0x00 ∷ 0x00 ∷ 0x00 ∷ 0x00 ∷ 0x00 ∷ 0x00 ∷ 0x01 ∷ 0x00 ∷ 0x00 ∷ 0x00 ∷ 0x01 ∷ replicate 8 0)
  pub position_before : asked (loaded tag fresh 0 (nearly_full 70 [] 1)) ReadPosition
      ≡ gives (loaded tag fresh 0 (nearly_full 70 [] 1))
      (0x00 ∷ 0x00 ∷ 0x00 ∷ 0x00 ∷ 0x00 ∷ 0x00 ∷ 0x00 ∷ 0x01 ∷ 0x00 ∷ 0x00 ∷ 0x00 ∷ 0x01 ∷ replicate 8 0)
  pub not_in_spec : sent (rows.loaded tag 0 (nearly_full 70 [] 1)) (Write false 1) (1 ∷ []) ≡ gives (rows.loaded tag 0 (nearly_full 70 (Block (1 ∷ []) ∷ []) 2)) []
  pub warning_is_carried_out : is_carried_out CheckCondition (Some early_warning) ≡ true
  pub overflow_is_not : is_carried_out CheckCondition (Some (senses.past_the_end 1)) ≡ false
  pub mark_is_not : is_carried_out CheckCondition (Some (senses.at_mark 1)) ≡ false
  pub length_is_not : is_carried_out CheckCondition (Some (senses.of_other_length 1)) ≡ false
  pub beginning_is_not : is_carried_out CheckCondition (Some (senses.at_beginning 1)) ≡ false
