use Rattle.std.specs.Prelude.{◌≡◌, ℕ, ℤ, pos, negsuc, List, length, [], ◌∷◌, ◌++◌, replicate, Option, Some, None, Ok, Err, true, false}
use Rattle.scsi_cdb.specs.declared.profile.Profile.{Profile}
use Rattle.scsi_cdb.specs.declared.profile.Profile.TheVariants.{Spec, Hosts}
use Rattle.tape_medium.specs.Object.{Block, Mark}
use Rattle.tape_medium.specs.TapeView.{TapeView}
use Rattle.tape_medium.specs.Tape.{blank, moved_to, settled, erased, writes_block, writes_blocks, writes_marks, object_at, item_of, bytes_of, passed}
use Rattle.tape_medium.specs.Space.{spaced}
use Rattle.tape_medium.specs.Elements.{Elements, empty_elements, reads, takes, puts, notes, moves, move_refusal}
use Rattle.tape_medium.specs.Volumes.{volumes}
use Rattle.tape_medium.specs.declared.volume.Volume.{Volume}
use Rattle.tape_medium.specs.ElementStatus.{element_status}
use Rattle.tape_medium.specs.declared.item.Item.TheVariants as item
use Rattle.tape_medium.specs.declared.fault.TapeFault.TheVariants.{BlockLength, Overflow}
use Rattle.tape_medium.specs.declared.space.Stop.{Stop}
use Rattle.tape_medium.specs.declared.space.Stop.TheVariants.{Done, AtMark, AtEnd, AtStart}
use Rattle.tape_medium.specs.declared.space.SpaceCode.TheVariants.{Blocks, Marks, EndOfData}
use Rattle.tape_medium.specs.declared.space.SpaceEnd.{SpaceEnd}
use Rattle.tape_medium.specs.declared.elements.MapFault.TheVariants.{BadAddress, SourceEmpty, DestinationFull}
use Rattle.tape_medium.specs.declared.volume.VolumeTag.{VolumeTag}

-- a block of 400 bytes and a filemark
abbrev pub block_and_mark : ℕ → TapeView
block_and_mark position = record { objects = Block (replicate 400 7) ∷ Mark ∷ []; position = position; capacity = 1000; unchanged = 0 }

-- reads of 1000 bytes give the block, the filemark, then the end; a read of 300 gives the first 300 bytes
pub record ReadsOfOtherLength : Type 0 where
  pub longer : item_of (object_at (block_and_mark 0)) ≡ item.Block 400
  pub longer_bytes : bytes_of (object_at (block_and_mark 0)) 1000 ≡ replicate 400 7
  pub to_mark : passed (object_at (block_and_mark 0)) (block_and_mark 0) ≡ block_and_mark 1
  pub mark : item_of (object_at (block_and_mark 1)) ≡ item.Mark
  pub mark_bytes : bytes_of (object_at (block_and_mark 1)) 1000 ≡ []
  pub to_end : passed (object_at (block_and_mark 1)) (block_and_mark 1) ≡ block_and_mark 2
  pub end : item_of (object_at (block_and_mark 2)) ≡ item.End
  pub stays : passed (object_at (block_and_mark 2)) (block_and_mark 2) ≡ block_and_mark 2
  pub shorter : bytes_of (object_at (block_and_mark 0)) 300 ≡ replicate 300 7

abbrev pub space_end : ℕ → Stop → SpaceEnd
space_end moved stop = record { moved = moved; stop = stop }

-- over that tape, both ways
pub record SpacesBothWays : Type 0 where
  pub to_end : spaced EndOfData (block_and_mark 0) (pos 0) ≡ (block_and_mark 2, space_end 0 Done)
  pub stopped : spaced Blocks (block_and_mark 0) (pos 3) ≡ (block_and_mark 2, space_end 1 AtMark)
  pub over_one : spaced Blocks (block_and_mark 0) (pos 1) ≡ (block_and_mark 1, space_end 1 Done)
  pub over_mark : spaced Marks (block_and_mark 0) (pos 1) ≡ (block_and_mark 2, space_end 1 Done)
  pub at_end : spaced Marks (block_and_mark 0) (pos 2) ≡ (block_and_mark 2, space_end 1 AtEnd)
  pub back_stopped : spaced Blocks (block_and_mark 2) (negsuc 1) ≡ (block_and_mark 1, space_end 0 AtMark)
  pub back_to_start : spaced Blocks (block_and_mark 1) (negsuc 1) ≡ (block_and_mark 0, space_end 1 AtStart)
  pub back_over_mark : spaced Marks (block_and_mark 2) (negsuc 0) ≡ (block_and_mark 1, space_end 1 Done)

-- a tape for 10 bytes takes 6 and then no 5 more; from its beginning it takes 10
abbrev pub six : TapeView
six = record { objects = Block (replicate 6 1) ∷ []; position = 1; capacity = 10; unchanged = 0 }

pub record OverflowKeepsTape : Type 0 where
  pub first : writes_block Spec (blank 10) (replicate 6 1) ≡ Ok six
  pub full : writes_block Spec six (replicate 5 2) ≡ Err Overflow
  pub again : writes_block Spec (moved_to six 0) (replicate 10 3) ≡ Ok (record { objects = Block (replicate 10 3) ∷ []; position = 1; capacity = 10; unchanged = 0 })

-- two blocks and a filemark, the first so many of them unchanged
abbrev pub three : (position unchanged : ℕ) → TapeView
three position unchanged =
    record { objects = Block (1 ∷ []) ∷ Block (2 ∷ []) ∷ Mark ∷ []; position = position; capacity = 10; unchanged = unchanged }

-- a write and an erasure leave those before the position unchanged, as far as they were; moving leaves them all
pub record UnchangedBeforeThePosition : Type 0 where
  pub fresh : (blank 10).unchanged ≡ 0
  pub all : settled (three 3 1) 3 ≡ three 3 3
  pub moved : moved_to (three 3 3) 0 ≡ three 0 3
  pub cut : erased (three 1 3) ≡ record (three 1 1) { objects = Block (1 ∷ []) ∷ [] }
  pub cut_behind : erased (three 2 1) ≡ record (three 2 1) { objects = Block (1 ∷ []) ∷ Block (2 ∷ []) ∷ [] }
  pub written : writes_block Spec (three 1 3) (2 ∷ []) ≡ Ok (record (three 2 1) { objects = Block (1 ∷ []) ∷ Block (2 ∷ []) ∷ [] })
  pub written_behind : writes_marks Spec (three 3 3) 1 ≡ Ok (record (three 4 3) { objects = Block (1 ∷ []) ∷ Block (2 ∷ []) ∷ Mark ∷ Mark ∷ [] })
  pub nothing_written : writes_marks Spec (three 1 3) 0 ≡ Ok (three 1 3)
  pub not_written : writes_block Spec (three 1 3) (replicate 11 5) ≡ Err Overflow

-- one data transfer element, two storage elements, a volume in the first of these
abbrev pub one_drive : VolumeTag → Elements
one_drive tag =
    record {
      data_transfer = None ∷ [];
      import_export = [];
      storage = Some (record { tag = tag; protected = false; tape = blank 10 }) ∷ None ∷ [];
    }

abbrev pub ElementStatusOfOneDrive : Type 0
ElementStatusOfOneDrive = (tag : VolumeTag) → element_status (one_drive tag) 0 0 0xffff false
    ≡ 0x00 ∷ 0x00 ∷ 0x00 ∷ 0x04 ∷ 0x00 ∷ 0x00 ∷ 0x00 ∷ 0x58 ∷ []
    ++ 0x01 ∷ 0x00 ∷ 0x00 ∷ 0x10 ∷ 0x00 ∷ 0x00 ∷ 0x00 ∷ 0x10 ∷ [] ++ replicate 16 0
    ++ 0x04 ∷ 0x00 ∷ 0x00 ∷ 0x10 ∷ 0x00 ∷ 0x00 ∷ 0x00 ∷ 0x10 ∷ [] ++ 0x01 ∷ 0x00 ∷ 0x08 ∷ [] ++ replicate 13 0
    ++ 0x02 ∷ 0x00 ∷ 0x00 ∷ 0x10 ∷ 0x00 ∷ 0x00 ∷ 0x00 ∷ 0x20 ∷ [] ++ 0x04 ∷ 0x00 ∷ 0x09 ∷ [] ++ replicate 13 0
    ++ 0x04 ∷ 0x01 ∷ 0x08 ∷ [] ++ replicate 13 0

-- the moves of that changer: only 0400h to 0401h moves
pub record MovesOfOneDrive (tag : VolumeTag) : Type 0 where
  pub moves_it : moves (one_drive tag) 0x400 0x401 ≡ Ok (record { data_transfer = None ∷ []; import_export = []; storage = None ∷ Some (record { tag = tag; protected = false; tape = blank 10 }) ∷ [] })
  pub onto_itself : moves (one_drive tag) 0x400 0x400 ≡ Err DestinationFull
  pub empty : moves (one_drive tag) 0x401 0x400 ≡ Err SourceEmpty
  pub drive : moves (one_drive tag) 0x400 0x100 ≡ Err BadAddress
  pub transport : moves (one_drive tag) 0x000 0x401 ≡ Err BadAddress
  pub past : moves (one_drive tag) 0x400 0x402 ≡ Err BadAddress
  pub into_drive : move_refusal (one_drive tag) 0 0x400 0x100 ≡ None
  pub out_of_empty_drive : move_refusal (one_drive tag) 0 0x100 0x401 ≡ Some SourceEmpty
  pub other_transport : move_refusal (one_drive tag) 1 0x400 0x100 ≡ Some BadAddress
  pub second_drive : move_refusal (one_drive tag) 0 0x400 0x101 ≡ Some BadAddress
  pub full : move_refusal (one_drive tag) 0 0x400 0x400 ≡ Some DestinationFull

-- an empty and a full import/export element: FULL, ACCESS, EXENAB and INENAB, and with VOLTAG the tag, zeros where there is none
abbrev pub cartridge : VolumeTag → Volume
cartridge tag = record { tag = tag; protected = false; tape = blank 10 }

-- VTL001L8, then spaces
abbrev pub told_tag : VolumeTag
told_tag = record { 0 = 0x56 ∷ 0x54 ∷ 0x4c ∷ 0x30 ∷ 0x30 ∷ 0x31 ∷ 0x4c ∷ 0x38 ∷ replicate 24 0x20 }

abbrev pub one_port : VolumeTag → Elements
one_port tag =
    record { data_transfer = Some tag ∷ []; import_export = None ∷ Some (cartridge tag) ∷ []; storage = None ∷ [] }

pub record StatusOfAPort (tag : VolumeTag) : Type 0 where
  pub flags : element_status (one_port tag) 3 0 0xffff false
      ≡ 0x02 ∷ 0x00 ∷ 0x00 ∷ 0x02 ∷ 0x00 ∷ 0x00 ∷ 0x00 ∷ 0x28 ∷ []
      ++ 0x03 ∷ 0x00 ∷ 0x00 ∷ 0x10 ∷ 0x00 ∷ 0x00 ∷ 0x00 ∷ 0x20 ∷ [] ++ 0x02 ∷ 0x00 ∷ 0x38 ∷ [] ++ replicate 13 0
      ++ 0x02 ∷ 0x01 ∷ 0x39 ∷ [] ++ replicate 13 0
  pub tags : element_status (one_port told_tag) 3 0x201 1 true
      ≡ 0x02 ∷ 0x01 ∷ 0x00 ∷ 0x01 ∷ 0x00 ∷ 0x00 ∷ 0x00 ∷ 0x3c ∷ []
      ++ 0x03 ∷ 0x80 ∷ 0x00 ∷ 0x34 ∷ 0x00 ∷ 0x00 ∷ 0x00 ∷ 0x34 ∷ []
      ++ 0x02 ∷ 0x01 ∷ 0x39 ∷ [] ++ replicate 9 0 ++ (0x56 ∷ 0x54 ∷ 0x4c ∷ 0x30 ∷ 0x30 ∷ 0x31 ∷ 0x4c ∷ 0x38 ∷ replicate 24 0x20) ++ replicate 8 0
  pub no_tag : element_status (one_port tag) 3 0x200 1 true
      ≡ 0x02 ∷ 0x00 ∷ 0x00 ∷ 0x01 ∷ 0x00 ∷ 0x00 ∷ 0x00 ∷ 0x3c ∷ []
      ++ 0x03 ∷ 0x80 ∷ 0x00 ∷ 0x34 ∷ 0x00 ∷ 0x00 ∷ 0x00 ∷ 0x34 ∷ []
      ++ 0x02 ∷ 0x00 ∷ 0x38 ∷ [] ++ replicate 49 0
  pub full_drive : element_status (one_port tag) 4 0 1 false
      ≡ 0x01 ∷ 0x00 ∷ 0x00 ∷ 0x01 ∷ 0x00 ∷ 0x00 ∷ 0x00 ∷ 0x18 ∷ []
      ++ 0x04 ∷ 0x00 ∷ 0x00 ∷ 0x10 ∷ 0x00 ∷ 0x00 ∷ 0x00 ∷ 0x10 ∷ [] ++ 0x01 ∷ 0x00 ∷ 0x09 ∷ [] ++ replicate 13 0

-- the volumes of two import/export and two storage elements; the tag of the one in the drive isn't one of them
abbrev pub changer : (port other first second : Option Volume) → Elements
changer port other first second =
    record { data_transfer = Some (record { 0 = replicate 32 0x41 }) ∷ []; import_export = port ∷ other ∷ []; storage = first ∷ second ∷ [] }

pub record VolumesOfAChanger (a b : VolumeTag) : Type 0 where
  pub both : volumes (changer None (Some (cartridge b)) None (Some (cartridge a))) ≡ cartridge b ∷ cartridge a ∷ []
  pub none : volumes (changer None None None None) ≡ []
  pub two_slots : volumes (changer None None (Some (cartridge a)) (Some (cartridge b))) ≡ cartridge a ∷ cartridge b ∷ []
  pub taken : takes (changer None (Some (cartridge b)) None (Some (cartridge a))) 0x201
      ≡ Ok (changer None None None (Some (cartridge a)), cartridge b)
  pub put : puts (changer None None None (Some (cartridge a))) 0x400 (cartridge b)
      ≡ Ok (changer None None (Some (cartridge b)) (Some (cartridge a)))
  pub moved : moves (changer None (Some (cartridge b)) None (Some (cartridge a))) 0x201 0x400
      ≡ Ok (changer None None (Some (cartridge b)) (Some (cartridge a)))
  pub noted : notes (changer (Some (cartridge b)) None None None) 0x100 (Some (record { 0 = replicate 32 0x41 }))
      ≡ Ok (changer (Some (cartridge b)) None None None)

-- a volume in the first storage element of a changer with two drives
abbrev pub of_two_drives : VolumeTag → Elements
of_two_drives tag =
    record { data_transfer = None ∷ None ∷ []; import_export = None ∷ None ∷ []; storage = Some (cartridge tag) ∷ None ∷ None ∷ [] }

-- elements by themselves move nothing into a drive, and tell nothing of what they don't have: of an unknown type a header of zeros
pub record ElementsOfTwoDrives (tag : VolumeTag) : Type 0 where
  pub put_in : puts (empty_elements 2 2 3) 0x400 (cartridge tag) ≡ Ok (of_two_drives tag)
  pub into_drive : moves (of_two_drives tag) 0x400 0x100 ≡ Err BadAddress
  pub stays : reads (of_two_drives tag) 0x400 ≡ Ok (Some tag)
  pub no_drive : reads (of_two_drives tag) 0x102 ≡ Err BadAddress
  pub unknown_type : element_status (empty_elements 2 2 3) 5 0 9 true ≡ replicate 8 0

-- SPACE goes back by the lowest count that there is, which no SPACE(6) has
abbrev pub lowest : ℤ
lowest = negsuc 2147483647

-- what no host's write has: no bytes, no length, a part of a block, and blocks that are too long
pub record TapesBySizes : Type 0 where
  pub back_by_the_lowest : spaced Marks (block_and_mark 2) lowest ≡ (block_and_mark 0, space_end 1 AtStart)
  pub nothing : writes_blocks Spec (blank 200000) [] 1 ≡ Ok (blank 200000)
  pub no_length : writes_blocks Spec (blank 200000) (replicate 4 7) 0 ≡ Err BlockLength
  pub nothing_of_no_length : writes_blocks Spec (blank 200000) [] 0 ≡ Err BlockLength
  pub part_of_a_block : writes_blocks Spec (blank 200000) (replicate 7 7) 2 ≡ Err BlockLength
  pub too_long_blocks : (bytes : List ℕ) → length bytes ≡ 131074 → writes_blocks Spec (blank 200000) bytes 65537 ≡ Err BlockLength
  pub empty_block : (profile : Profile) (tape : TapeView) → writes_block profile tape [] ≡ Err BlockLength
  pub too_long_a_block : (tape : TapeView) (bytes : List ℕ) → length bytes ≡ 65537 → writes_block Spec tape bytes ≡ Err BlockLength

-- the longest blocks of either profile, and the most objects: 64 KiB and a million, 1 MiB and 16 Mi.
pub record LimitsOfProfiles : Type 0 where
  pub longest : (bytes : List ℕ) → length bytes ≡ 65536 → writes_block Spec (blank 2097152) bytes ≡ Ok (record { objects = Block bytes ∷ []; position = 1; capacity = 2097152; unchanged = 0 })
  pub longest_for_hosts : (bytes : List ℕ) → length bytes ≡ 1048576
      → writes_block Hosts (blank 2097152) bytes ≡ Ok (record { objects = Block bytes ∷ []; position = 1; capacity = 2097152; unchanged = 0 })
  pub of_hosts_alone : (bytes : List ℕ) → length bytes ≡ 65537
      → writes_block Hosts (blank 2097152) bytes ≡ Ok (record { objects = Block bytes ∷ []; position = 1; capacity = 2097152; unchanged = 0 })
  pub too_long_for_hosts : (tape : TapeView) (bytes : List ℕ) → length bytes ≡ 1048577 → writes_block Hosts tape bytes ≡ Err BlockLength
  pub too_long_in_many : (bytes : List ℕ) → length bytes ≡ 2097154 → writes_blocks Hosts (blank 4194304) bytes 1048577 ≡ Err BlockLength
  pub full : writes_marks Spec (moved_to (blank 1000) 1000000) 1 ≡ Err Overflow
  pub not_full_for_hosts : writes_marks Hosts (moved_to (blank 1000) 1000000) 1 ≡ Ok (record { objects = Mark ∷ []; position = 1000001; capacity = 1000; unchanged = 0 })
  pub last_for_hosts : writes_marks Hosts (moved_to (blank 1000) 16777215) 1 ≡ Ok (record { objects = Mark ∷ []; position = 16777216; capacity = 1000; unchanged = 0 })
  pub full_for_hosts : writes_marks Hosts (moved_to (blank 1000) 16777216) 1 ≡ Err Overflow
  pub too_many_for_hosts : writes_marks Hosts (moved_to (blank 1000) 16777215) 2 ≡ Err Overflow
