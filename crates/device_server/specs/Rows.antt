-- Worked rows: what a host gets from a drive, byte by byte, and the drive after it.
use Rattle.std.specs.Prelude.{◌≡◌, ℕ, pos, negsuc, Bool, true, false, List, [], ◌∷◌, ◌++◌, replicate, Option, Some, None, Ok, Err}
use Rattle.scsi_cdb.specs.declared.kind.Kind.TheVariants as kind
use Rattle.scsi_cdb.specs.declared.profile.Profile.TheVariants.{Spec}
use Rattle.scsi_cdb.specs.Kinds.{commands}
use Rattle.scsi_cdb.specs.declared.request.Request.{Request}
use Rattle.scsi_cdb.specs.declared.request.Request.TheVariants.{TestUnitReady, ReadBlockLimits, Read, Write, WriteFilemarks, Space, ModeSelect, Erase, ModeSense, LoadUnload, Locate, ReadPosition, MoveMedium, ReadElementStatus}
use Rattle.scsi_sense.specs.declared.condition.Condition.TheVariants.{InvalidFieldInCdb, InvalidFieldInParameterList, ParameterListLengthError, SavingParametersNotSupported}
use Rattle.scsi_sense.specs.FixedSense.{fixed_sense}
use Rattle.tape_medium.specs.Object.{Block, Mark}
use Rattle.tape_medium.specs.Tape.{blank, moved_to}
use Rattle.tape_medium.specs.TapeView.{TapeView}
use Rattle.tape_medium.specs.declared.volume.VolumeTag.{VolumeTag}
use Rattle.tape_medium.specs.declared.volume.Volume.{Volume}
use Rattle.unit_attention.specs.declared.kind.Kind.{Kind}
use Rattle.unit_attention.specs.declared.kind.Kind.TheVariants.{ModeParametersChanged}
use Rattle.device_server.specs.declared.fault.TakeFault.TheVariants as take_fault
use Rattle.device_server.specs.declared.fault.PutFault.TheVariants as put_fault
use Rattle.device_server.specs.declared.outcome.Outcome.{Outcome}
use Rattle.device_server.specs.FieldFaults.{field_fault_of}
use Rattle.device_server.specs.Drive.{empty_drive}
use Rattle.device_server.specs.View.{DeviceView, Drive, kind_of, drives_of, held_in, performed, taken, put, marked, reset_of}

-- what a host gets, and the device that is left
pub record Answer : Type 0 where
  pub after : DeviceView
  pub payload : List ℕ
  pub sense : List ℕ
  pub told : Option Kind

abbrev pub sense_bytes : Outcome → List ℕ
sense_bytes outcome = elim outcome.sense [ None ↦ [] | Some sense ↦ fixed_sense sense ]

abbrev pub answer_of : DeviceView × Outcome → Answer
answer_of step =
    record { after = step.0; payload = step.1.payload; sense = sense_bytes step.1; told = step.1.told }

abbrev pub sent : DeviceView → Request → List ℕ → Answer
sent device request bytes = answer_of (performed device request bytes)

-- a command with no data sent
abbrev pub asked : DeviceView → Request → Answer
asked device request = sent device request []

-- GOOD, with data
abbrev pub gives : DeviceView → List ℕ → Answer
gives after payload = record { after = after; payload = payload; sense = []; told = None }

-- CHECK CONDITION, with the sense data and what was read before
abbrev pub checks : DeviceView → List ℕ → (sense : List ℕ) → Answer
checks after payload sense = record { after = after; payload = payload; sense = sense; told = None }

-- the 18 bytes of sense data, by VALID with the response code, the marks with the sense key, INFORMATION, and the two codes
abbrev pub sense : (first marks i3 i2 i1 i0 asc ascq : ℕ) → List ℕ
sense first marks i3 i2 i1 i0 asc ascq =
    first ∷ 0x00 ∷ marks ∷ i3 ∷ i2 ∷ i1 ∷ i0 ∷ 0x0a ∷ 0x00 ∷ 0x00 ∷ 0x00 ∷ 0x00 ∷ asc ∷ ascq ∷ 0x00 ∷ 0x00 ∷ 0x00 ∷ 0x00 ∷ []

abbrev pub volume : VolumeTag → TapeView → Volume
volume tag tape = record { tag = tag; protected = false; tape = tape }

-- a drive with a loaded volume
abbrev pub loaded : VolumeTag → (block_length : ℕ) → TapeView → DeviceView
loaded tag block_length tape = Drive (record { bay = Some (volume tag tape); loaded = true; block_length = block_length; hosts = None })

abbrev pub unloaded : VolumeTag → (block_length : ℕ) → TapeView → DeviceView
unloaded tag block_length tape = Drive (record { bay = Some (volume tag tape); loaded = false; block_length = block_length; hosts = None })

abbrev pub protected : VolumeTag → TapeView → DeviceView
protected tag tape =
    Drive (record { bay = Some (record { tag = tag; protected = true; tape = tape }); loaded = true; block_length = 0; hosts = None })

-- a block of 400 bytes and a filemark
abbrev pub block_and_mark : (position : ℕ) → TapeView
block_and_mark position = record (blank 1000) { objects = Block (replicate 400 7) ∷ Mark ∷ []; position = position }

abbrev pub one_block_read : (suppress_incorrect_length : Bool) → (length : ℕ) → Request
one_block_read suppress_incorrect_length length = Read suppress_incorrect_length false length

-- reads of 1000 bytes give the block, the filemark, then the end; a read of 300 gives the first 300 bytes
pub record ReadsOfOtherLength (tag : VolumeTag) : Type 0 where
  pub longer : asked (loaded tag 0 (block_and_mark 0)) (one_block_read false 1000)
      ≡ checks (loaded tag 0 (block_and_mark 1)) (replicate 400 7) (sense 0xf0 0x20 0x00 0x00 0x02 0x58 0x00 0x00)
  pub mark : asked (loaded tag 0 (block_and_mark 1)) (one_block_read false 1000)
      ≡ checks (loaded tag 0 (block_and_mark 2)) [] (sense 0xf0 0x80 0x00 0x00 0x03 0xe8 0x00 0x01)
  pub end : asked (loaded tag 0 (block_and_mark 2)) (one_block_read false 1000)
      ≡ checks (loaded tag 0 (block_and_mark 2)) [] (sense 0xf0 0x08 0x00 0x00 0x03 0xe8 0x00 0x05)
  pub to_end : asked (loaded tag 0 (block_and_mark 0)) (Space 3 (pos 0)) ≡ gives (loaded tag 0 (block_and_mark 2)) []
  pub shorter : asked (loaded tag 0 (block_and_mark 0)) (one_block_read false 300)
      ≡ checks (loaded tag 0 (block_and_mark 1)) (replicate 300 7) (sense 0xf0 0x20 0xff 0xff 0xff 0x9c 0x00 0x00)
  pub same : asked (loaded tag 0 (block_and_mark 0)) (one_block_read false 400)
      ≡ gives (loaded tag 0 (block_and_mark 1)) (replicate 400 7)
  pub nothing : asked (loaded tag 0 (block_and_mark 2)) (one_block_read false 0) ≡ gives (loaded tag 0 (block_and_mark 2)) []

-- SILI hides another length, but where the mode has a block length not that of a longer block
pub record SuppressedLengths (tag : VolumeTag) : Type 0 where
  pub longer : asked (loaded tag 0 (block_and_mark 0)) (one_block_read true 1000)
      ≡ gives (loaded tag 0 (block_and_mark 1)) (replicate 400 7)
  pub shorter : asked (loaded tag 0 (block_and_mark 0)) (one_block_read true 300)
      ≡ gives (loaded tag 0 (block_and_mark 1)) (replicate 300 7)
  pub longer_in_mode : asked (loaded tag 512 (block_and_mark 0)) (one_block_read true 1000)
      ≡ gives (loaded tag 512 (block_and_mark 1)) (replicate 400 7)
  pub shorter_in_mode : asked (loaded tag 512 (block_and_mark 0)) (one_block_read true 300)
      ≡ checks (loaded tag 512 (block_and_mark 1)) (replicate 300 7) (sense 0xf0 0x20 0xff 0xff 0xff 0x9c 0x00 0x00)

-- over that tape both ways: INFORMATION is what was left to do
pub record SpacesBothWays (tag : VolumeTag) : Type 0 where
  pub blocks : asked (loaded tag 0 (block_and_mark 0)) (Space 0 (pos 3))
      ≡ checks (loaded tag 0 (block_and_mark 2)) [] (sense 0xf0 0x80 0x00 0x00 0x00 0x02 0x00 0x01)
  pub marks : asked (loaded tag 0 (block_and_mark 0)) (Space 1 (pos 2))
      ≡ checks (loaded tag 0 (block_and_mark 2)) [] (sense 0xf0 0x08 0x00 0x00 0x00 0x01 0x00 0x05)
  pub one_mark : asked (loaded tag 0 (block_and_mark 0)) (Space 1 (pos 1)) ≡ gives (loaded tag 0 (block_and_mark 2)) []
  pub back_to_mark : asked (loaded tag 0 (block_and_mark 2)) (Space 0 (negsuc 1))
      ≡ checks (loaded tag 0 (block_and_mark 1)) [] (sense 0xf0 0x80 0x00 0x00 0x00 0x02 0x00 0x01)
  pub back_to_start : asked (loaded tag 0 (block_and_mark 1)) (Space 0 (negsuc 3))
      ≡ checks (loaded tag 0 (block_and_mark 0)) [] (sense 0xf0 0x40 0x00 0x00 0x00 0x03 0x00 0x04)
  pub past_the_end : asked (loaded tag 0 (block_and_mark 0)) (Locate false false 3 0)
      ≡ checks (loaded tag 0 (block_and_mark 2)) [] (sense 0x70 0x08 0x00 0x00 0x00 0x00 0x00 0x05)
  pub located : asked (loaded tag 0 (block_and_mark 0)) (Locate false false 2 0) ≡ gives (loaded tag 0 (block_and_mark 2)) []

-- READ POSITION and READ BLOCK LIMITS
pub record PositionsRead (tag : VolumeTag) : Type 0 where
  pub at_start : asked (loaded tag 0 (block_and_mark 0)) ReadPosition
      ≡ gives (loaded tag 0 (block_and_mark 0)) (0x80 ∷ replicate 19 0)
  pub behind_both : asked (loaded tag 0 (block_and_mark 2)) ReadPosition
      ≡ gives (loaded tag 0 (block_and_mark 2))
      (0x00 ∷ 0x00 ∷ 0x00 ∷ 0x00 ∷ 0x00 ∷ 0x00 ∷ 0x00 ∷ 0x02 ∷ 0x00 ∷ 0x00 ∷ 0x00 ∷ 0x02 ∷ replicate 8 0)
  pub limits : asked (Drive empty_drive) ReadBlockLimits
      ≡ gives (Drive empty_drive) (0x00 ∷ 0x01 ∷ 0x00 ∷ 0x00 ∷ 0x00 ∷ 0x01 ∷ [])

-- the parameter list of a MODE SELECT of blocks of 512 bytes
abbrev pub list_of_512 : List ℕ
list_of_512 = 0x00 ∷ 0x00 ∷ 0x00 ∷ 0x08 ∷ 0x00 ∷ 0x00 ∷ 0x00 ∷ 0x00 ∷ 0x00 ∷ 0x00 ∷ 0x02 ∷ 0x00 ∷ []

-- GOOD, of a MODE SELECT, with what the others are told
abbrev pub selects : DeviceView → (told : Option Kind) → Answer
selects after told = record { after = after; payload = []; sense = []; told = told }

-- MODE SELECT of a block length, and again, and MODE SENSE after it
pub record ModesOfADrive (tag : VolumeTag) : Type 0 where
  pub chosen : sent (loaded tag 0 (block_and_mark 0)) (ModeSelect false 12) list_of_512
      ≡ selects (loaded tag 512 (block_and_mark 0)) (Some ModeParametersChanged)
  pub again : sent (loaded tag 512 (block_and_mark 0)) (ModeSelect false 12) list_of_512
      ≡ selects (loaded tag 512 (block_and_mark 0)) None
  pub no_list : asked (loaded tag 512 (block_and_mark 0)) (ModeSelect false 0) ≡ selects (loaded tag 512 (block_and_mark 0)) None
  pub header_alone : sent (loaded tag 512 (block_and_mark 0)) (ModeSelect false 4) (replicate 4 0)
      ≡ selects (loaded tag 512 (block_and_mark 0)) None
  pub told : asked (loaded tag 512 (block_and_mark 0)) (ModeSense false 0 0x00 0x00 255)
      ≡ gives (loaded tag 512 (block_and_mark 0))
      (0x0b ∷ 0x00 ∷ 0x00 ∷ 0x08 ∷ 0x00 ∷ 0x00 ∷ 0x00 ∷ 0x00 ∷ 0x00 ∷ 0x00 ∷ 0x02 ∷ 0x00 ∷ [])
  pub cut : asked (loaded tag 512 (block_and_mark 0)) (ModeSense false 0 0x3f 0x00 4)
      ≡ gives (loaded tag 512 (block_and_mark 0)) (0x0b ∷ 0x00 ∷ 0x00 ∷ 0x08 ∷ [])
  pub without_descriptor : asked (loaded tag 512 (block_and_mark 0)) (ModeSense true 0 0x00 0x00 255)
      ≡ gives (loaded tag 512 (block_and_mark 0)) (0x03 ∷ 0x00 ∷ 0x00 ∷ 0x00 ∷ [])
  pub protected_medium : asked (protected tag (block_and_mark 0)) (ModeSense true 0 0x00 0x00 255)
      ≡ gives (protected tag (block_and_mark 0)) (0x03 ∷ 0x00 ∷ 0x80 ∷ 0x00 ∷ [])
  pub reset : reset_of (loaded tag 512 (block_and_mark 2)) ≡ loaded tag 0 (block_and_mark 0)
  pub reset_unloaded : reset_of (unloaded tag 512 (block_and_mark 0)) ≡ unloaded tag 0 (block_and_mark 0)

-- what is refused by the fields of a command and its data alone
pub record RefusedFields : Type 0 where
  pub saved_values : field_fault_of (commands Spec kind.Drive) (ModeSense false 3 0x00 0x00 255) [] ≡ Some SavingParametersNotSupported
  pub saved_before_page : field_fault_of (commands Spec kind.Drive) (ModeSense false 3 0x1d 0xff 255) [] ≡ Some SavingParametersNotSupported
  pub default_values : field_fault_of (commands Spec kind.Drive) (ModeSense false 2 0x00 0x00 255) [] ≡ Some InvalidFieldInCdb
  pub subpage : field_fault_of (commands Spec kind.Drive) (ModeSense false 0 0x00 0x01 255) [] ≡ Some InvalidFieldInCdb
  pub other_page : field_fault_of (commands Spec kind.Drive) (ModeSense false 0 0x0f 0x00 255) [] ≡ Some InvalidFieldInCdb
  pub page_of_changer : field_fault_of (commands Spec kind.Drive) (ModeSense false 0 0x1d 0x00 255) [] ≡ Some InvalidFieldInCdb
  pub page_of_drive : field_fault_of (commands Spec kind.Changer) (ModeSense false 0 0x00 0x00 255) [] ≡ Some InvalidFieldInCdb
  pub no_page : field_fault_of (commands Spec kind.Drive) (ModeSense false 0 0x00 0x00 255) [] ≡ None
  pub all_pages : field_fault_of (commands Spec kind.Drive) (ModeSense false 0 0x3f 0x00 255) [] ≡ None
  pub element_addresses : field_fault_of (commands Spec kind.Changer) (ModeSense false 0 0x1d 0x00 255) [] ≡ None
  pub suppressed_fixed : field_fault_of (commands Spec kind.Drive) (Read true true 1) [] ≡ Some InvalidFieldInCdb
  pub setmarks : field_fault_of (commands Spec kind.Drive) (WriteFilemarks true false 0) [] ≡ Some InvalidFieldInCdb
  pub sequential_marks : field_fault_of (commands Spec kind.Drive) (Space 2 (pos 1)) [] ≡ Some InvalidFieldInCdb
  pub end_of_data : field_fault_of (commands Spec kind.Drive) (Space 3 (pos 1)) [] ≡ None
  pub above_limit : field_fault_of (commands Spec kind.Drive) (Write false 65537) (replicate 65537 0) ≡ Some InvalidFieldInCdb
  pub too_few_bytes : field_fault_of (commands Spec kind.Drive) (Write false 2) (1 ∷ []) ≡ Some InvalidFieldInCdb
  pub held : field_fault_of (commands Spec kind.Drive) (LoadUnload true false true) [] ≡ Some InvalidFieldInCdb
  pub end_of_tape : field_fault_of (commands Spec kind.Drive) (LoadUnload false true true) [] ≡ Some InvalidFieldInCdb
  pub address_type : field_fault_of (commands Spec kind.Drive) (Locate true false 0 0) [] ≡ Some InvalidFieldInCdb
  pub partition : field_fault_of (commands Spec kind.Drive) (Locate false true 0 0) [] ≡ Some InvalidFieldInCdb
  pub inverted : field_fault_of (commands Spec kind.Changer) (MoveMedium 0 0 0 true) [] ≡ Some InvalidFieldInCdb
  pub identifiers : field_fault_of (commands Spec kind.Changer) (ReadElementStatus false 4 0 1 false true 255) [] ≡ Some InvalidFieldInCdb
  pub greatest_type : field_fault_of (commands Spec kind.Changer) (ReadElementStatus true 4 0 1 true false 255) [] ≡ None
  pub element_type : field_fault_of (commands Spec kind.Changer) (ReadElementStatus false 5 0 1 false false 255) [] ≡ Some InvalidFieldInCdb

-- MODE SELECT's list, in the order of the tests
pub record RefusedLists : Type 0 where
  pub saved : field_fault_of (commands Spec kind.Drive) (ModeSelect true 12) [] ≡ Some InvalidFieldInCdb
  pub other_length : field_fault_of (commands Spec kind.Drive) (ModeSelect false 12) (replicate 11 0) ≡ Some ParameterListLengthError
  pub part_of_a_header : field_fault_of (commands Spec kind.Drive) (ModeSelect false 3) (replicate 3 0) ≡ Some ParameterListLengthError
  pub long_descriptor : field_fault_of (commands Spec kind.Drive) (ModeSelect false 4) (0 ∷ 0 ∷ 0 ∷ 16 ∷ []) ≡ Some InvalidFieldInParameterList
  pub no_descriptor : field_fault_of (commands Spec kind.Drive) (ModeSelect false 4) (0 ∷ 0 ∷ 0 ∷ 8 ∷ []) ≡ Some ParameterListLengthError
  pub long_blocks : field_fault_of (commands Spec kind.Drive) (ModeSelect false 12) (0 ∷ 0 ∷ 0 ∷ 8 ∷ replicate 5 0 ++ 0x01 ∷ 0x00 ∷ 0x01 ∷ [])
      ≡ Some InvalidFieldInParameterList
  pub longest_blocks : field_fault_of (commands Spec kind.Drive) (ModeSelect false 12) (0 ∷ 0 ∷ 0 ∷ 8 ∷ replicate 5 0 ++ 0x01 ∷ 0x00 ∷ 0x00 ∷ [])
      ≡ None

abbrev pub tape_of : (blocks position : ℕ) → TapeView
tape_of blocks position = record (blank 1024) { objects = replicate blocks (Block (replicate 512 9)); position = position }

-- the sense of a transfer in blocks that the drive doesn't do
abbrev pub refused_transfer : List ℕ
refused_transfer = sense 0x70 0x05 0x00 0x00 0x00 0x00 0x24 0x00

-- transfers in blocks of 512 bytes, on a tape with room for two of them
pub record FixedTransfers (tag : VolumeTag) : Type 0 where
  pub written : sent (loaded tag 512 (tape_of 0 0)) (Write true 2) (replicate 1024 9) ≡ gives (loaded tag 512 (tape_of 2 2)) []
  pub read_back : asked (loaded tag 512 (tape_of 2 0)) (Read false true 2)
      ≡ gives (loaded tag 512 (tape_of 2 2)) (replicate 1024 9)
  pub past_the_end : asked (loaded tag 512 (tape_of 2 1)) (Read false true 3)
      ≡ checks (loaded tag 512 (tape_of 2 2)) (replicate 512 9) (sense 0xf0 0x08 0x00 0x00 0x00 0x02 0x00 0x05)
  pub of_other_length : asked (loaded tag 512 (block_and_mark 0)) (Read false true 2)
      ≡ checks (loaded tag 512 (block_and_mark 1)) [] (sense 0xf0 0x20 0x00 0x00 0x00 0x02 0x00 0x00)
  pub to_mark : asked (loaded tag 400 (block_and_mark 0)) (Read false true 2)
      ≡ checks (loaded tag 400 (block_and_mark 2)) (replicate 400 7) (sense 0xf0 0x80 0x00 0x00 0x00 0x01 0x00 0x01)
  pub no_block_length : asked (loaded tag 0 (block_and_mark 0)) (Read false true 0)
      ≡ checks (loaded tag 0 (block_and_mark 0)) [] refused_transfer
  pub too_long : asked (loaded tag 512 (tape_of 2 0)) (Read false true 129)
      ≡ checks (loaded tag 512 (tape_of 2 0)) [] refused_transfer
  pub other_data : sent (loaded tag 512 (tape_of 2 0)) (Write true 2) (replicate 1023 9)
      ≡ checks (loaded tag 512 (tape_of 2 0)) [] refused_transfer
  pub nothing : asked (loaded tag 512 (tape_of 2 0)) (Write true 0) ≡ gives (loaded tag 512 (tape_of 2 0)) []

-- a tape at the last position that there is: what lies before it isn't looked at
abbrev pub full_of_marks : TapeView
full_of_marks = moved_to (blank 1000) 1000000

-- what doesn't fit, and what a protected volume refuses: the tape stays
pub record RefusedWrites (tag : VolumeTag) : Type 0 where
  pub overflow : sent (loaded tag 512 (tape_of 2 1)) (Write true 2) (replicate 1024 9)
      ≡ checks (loaded tag 512 (tape_of 2 1)) [] (sense 0xf0 0x4d 0x00 0x00 0x00 0x02 0x00 0x02)
  pub block_overflow : sent (loaded tag 0 (tape_of 2 1)) (Write false 600) (replicate 600 9)
      ≡ checks (loaded tag 0 (tape_of 2 1)) [] (sense 0xf0 0x4d 0x00 0x00 0x02 0x58 0x00 0x02)
  pub marks_overflow : asked (loaded tag 0 full_of_marks) (WriteFilemarks false false 1)
      ≡ checks (loaded tag 0 full_of_marks) [] (sense 0xf0 0x4d 0x00 0x00 0x00 0x01 0x00 0x02)
  pub last_mark : asked (loaded tag 0 (record full_of_marks { position = 999999 })) (WriteFilemarks false false 1)
      ≡ gives (loaded tag 0 (record (blank 1000) { objects = Mark ∷ []; position = 1000000 })) []
  pub mark_at_once : asked (loaded tag 0 (record full_of_marks { position = 999999 })) (WriteFilemarks false true 1)
      ≡ gives (loaded tag 0 (record (blank 1000) { objects = Mark ∷ []; position = 1000000 })) []
  pub protected_medium : sent (protected tag (block_and_mark 1)) (Write false 1) (5 ∷ [])
      ≡ checks (protected tag (block_and_mark 1)) [] (sense 0x70 0x07 0x00 0x00 0x00 0x00 0x27 0x00)
  pub protected_marks : asked (protected tag (block_and_mark 1)) (WriteFilemarks false false 1)
      ≡ checks (protected tag (block_and_mark 1)) [] (sense 0x70 0x07 0x00 0x00 0x00 0x00 0x27 0x00)
  pub protected_erase : asked (protected tag (block_and_mark 1)) Erase
      ≡ checks (protected tag (block_and_mark 1)) [] (sense 0x70 0x07 0x00 0x00 0x00 0x00 0x27 0x00)
  pub erase : asked (loaded tag 0 (block_and_mark 1)) Erase
      ≡ gives (loaded tag 0 (record (blank 1000) { objects = Block (replicate 400 7) ∷ []; position = 1 })) []
  pub protected_nothing : asked (protected tag (block_and_mark 1)) (WriteFilemarks false false 0)
      ≡ gives (protected tag (block_and_mark 1)) []

abbrev pub not_present : List ℕ
not_present = sense 0x70 0x02 0x00 0x00 0x00 0x00 0x3a 0x00

abbrev pub not_loaded : List ℕ
not_loaded = sense 0x70 0x02 0x00 0x00 0x00 0x00 0x04 0x02

-- an empty bay, a volume that isn't loaded, and volumes that go in and out
pub record VolumesOfADrive (tag : VolumeTag) : Type 0 where
  pub no_volume : asked (Drive empty_drive) TestUnitReady ≡ checks (Drive empty_drive) [] not_present
  pub no_volume_first : asked (Drive empty_drive) (Read false true 1) ≡ checks (Drive empty_drive) [] not_present
  pub load_nothing : asked (Drive empty_drive) (LoadUnload false false true) ≡ checks (Drive empty_drive) [] not_present
  pub not_ready : asked (unloaded tag 0 (block_and_mark 0)) TestUnitReady
      ≡ checks (unloaded tag 0 (block_and_mark 0)) [] not_loaded
  pub load : asked (unloaded tag 0 (block_and_mark 0)) (LoadUnload false false true) ≡ gives (loaded tag 0 (block_and_mark 0)) []
  pub unload : asked (loaded tag 0 (block_and_mark 2)) (LoadUnload false false false)
      ≡ gives (unloaded tag 0 (block_and_mark 0)) []
  pub unload_again : asked (unloaded tag 0 (block_and_mark 0)) (LoadUnload false false false)
      ≡ gives (unloaded tag 0 (block_and_mark 0)) []
  pub put_in : put (Drive empty_drive) 0 (volume tag (block_and_mark 2)) ≡ Ok (loaded tag 0 (block_and_mark 0))
  pub put_on_another : put (loaded tag 0 (block_and_mark 0)) 0 (volume tag (block_and_mark 2)) ≡ Err put_fault.Full
  pub put_elsewhere : put (Drive empty_drive) 1 (volume tag (block_and_mark 2)) ≡ Err put_fault.BadPlace
  pub taken_out : taken (loaded tag 0 (block_and_mark 2)) 0 ≡ Ok (volume tag (block_and_mark 0), Drive empty_drive)
  pub taken_from_empty : taken (Drive empty_drive) 0 ≡ Err take_fault.Empty
  pub taken_elsewhere : taken (loaded tag 0 (block_and_mark 2)) 1 ≡ Err take_fault.BadPlace
  pub kind : kind_of (loaded tag 0 (block_and_mark 2)) ≡ kind.Drive
  pub drives : drives_of (loaded tag 0 (block_and_mark 2)) ≡ 0
  pub held : held_in (unloaded tag 0 (block_and_mark 0)) 0 ≡ Some tag
  pub held_in_empty : held_in (Drive empty_drive) 0 ≡ None
  pub held_elsewhere : held_in (loaded tag 0 (block_and_mark 2)) 1 ≡ None
  pub not_marked : marked (loaded tag 0 (block_and_mark 2)) 0 (Some tag) ≡ Err record {}

-- two filemarks, and a protected volume of one, each with its tape at the end
abbrev pub two_marks : VolumeTag → (position : ℕ) → Volume
two_marks tag position = volume tag (record (blank 10) { objects = Mark ∷ Mark ∷ []; position = position })

abbrev pub one_mark : VolumeTag → Volume
one_mark tag = record { tag = tag; protected = true; tape = record (blank 10) { objects = Mark ∷ []; position = 1 } }

-- a drive with the first of them
abbrev pub of_two_marks : VolumeTag → (position : ℕ) → DeviceView
of_two_marks tag position = Drive (record { bay = Some (two_marks tag position); loaded = true; block_length = 0; hosts = None })

-- a volume that goes into a bay and out of it is rewound, and one that another is refused for stays
pub record BayOfADrive (tag : VolumeTag) : Type 0 where
  pub kind : kind_of (Drive empty_drive) ≡ kind.Drive
  pub drives : drives_of (Drive empty_drive) ≡ 0
  pub empty : held_in (Drive empty_drive) 0 ≡ None
  pub taken_from_empty : taken (Drive empty_drive) 0 ≡ Err take_fault.Empty
  pub taken_from_no_bay : taken (Drive empty_drive) 1 ≡ Err take_fault.BadPlace
  pub not_marked : marked (Drive empty_drive) 0 (Some tag) ≡ Err record {}
  pub into_no_bay : put (Drive empty_drive) 1 (two_marks tag 2) ≡ Err put_fault.BadPlace
  pub put_in : put (Drive empty_drive) 0 (two_marks tag 2) ≡ Ok (of_two_marks tag 0)
  pub held : held_in (of_two_marks tag 0) 0 ≡ Some tag
  pub held_in_no_other : held_in (of_two_marks tag 0) 1 ≡ None
  pub put_on_another : put (of_two_marks tag 0) 0 (one_mark tag) ≡ Err put_fault.Full
  pub to_the_end : asked (of_two_marks tag 0) (Space 3 (pos 0)) ≡ gives (of_two_marks tag 2) []
  pub taken_out : taken (of_two_marks tag 2) 0 ≡ Ok (two_marks tag 0, Drive empty_drive)
  pub not_ready : asked (Drive empty_drive) TestUnitReady ≡ checks (Drive empty_drive) [] not_present
