-- Worked rows: what a host gets from a changer, byte by byte, and the changer after it. It has one data transfer, one import/export and two
-- storage elements.
use Rattle.std.specs.Prelude.{◌≡◌, ℕ, true, false, List, [], ◌∷◌, ◌++◌, replicate, Option, Some, None, Ok, Err}
use Rattle.scsi_cdb.specs.declared.kind.Kind.TheVariants as kind
use Rattle.scsi_cdb.specs.declared.request.Request.{Request}
use Rattle.scsi_cdb.specs.declared.request.Request.TheVariants.{TestUnitReady, Rewind, InitializeElementStatus, ModeSelect, ModeSense, MoveMedium, ReadElementStatus}
use Rattle.tape_medium.specs.declared.volume.VolumeTag.{VolumeTag}
use Rattle.tape_medium.specs.declared.volume.Volume.{Volume}
use Rattle.device_server.specs.declared.fault.TakeFault.TheVariants as take_fault
use Rattle.device_server.specs.declared.fault.PutFault.TheVariants as put_fault
use Rattle.device_server.specs.HostChanger.{spec_changer}
use Rattle.device_server.specs.View.{DeviceView, Changer, kind_of, drives_of, held_in, taken, put, marked, reset_of}
use Rattle.device_server.specs.Rows.{asked, gives, checks, sense, volume, block_and_mark}

-- a volume, its tape not at the beginning
abbrev pub cartridge : VolumeTag → Volume
cartridge tag = volume tag (block_and_mark 2)

-- VTL001L8, then spaces
abbrev pub tag_bytes : List ℕ
tag_bytes = 0x56 ∷ 0x54 ∷ 0x4c ∷ 0x30 ∷ 0x30 ∷ 0x31 ∷ 0x4c ∷ 0x38 ∷ replicate 24 0x20

abbrev pub told_tag : VolumeTag
told_tag = record { 0 = tag_bytes }

-- what is noted at the data transfer element, and the volumes in the import/export element and in both storage elements
abbrev pub library : (mark : Option VolumeTag) → (port first second : Option Volume) → DeviceView
library mark port first second =
    Changer (spec_changer (record { data_transfer = mark ∷ []; import_export = port ∷ []; storage = first ∷ second ∷ [] }))

-- one volume, in the first storage element
abbrev pub one_volume : VolumeTag → DeviceView
one_volume tag = library None None (Some (cartridge tag)) None

-- two volumes: in the first storage element and in the import/export element
abbrev pub two_volumes : (a b : VolumeTag) → DeviceView
two_volumes a b = library None (Some (cartridge b)) (Some (cartridge a)) None

-- CHECK CONDITION, ILLEGAL REQUEST: no command of a changer, a field of the CDB, no such element, a full and an empty element
abbrev pub no_command : List ℕ
no_command = sense 0x70 0x05 0x00 0x00 0x00 0x00 0x20 0x00

abbrev pub wrong_field : List ℕ
wrong_field = sense 0x70 0x05 0x00 0x00 0x00 0x00 0x24 0x00

abbrev pub no_element : List ℕ
no_element = sense 0x70 0x05 0x00 0x00 0x00 0x00 0x21 0x01

abbrev pub destination_full : List ℕ
destination_full = sense 0x70 0x05 0x00 0x00 0x00 0x00 0x3b 0x0d

abbrev pub source_empty : List ℕ
source_empty = sense 0x70 0x05 0x00 0x00 0x00 0x00 0x3b 0x0e

-- HARDWARE ERROR: internal target failure
abbrev pub internal_failure : List ℕ
internal_failure = sense 0x70 0x04 0x00 0x00 0x00 0x00 0x44 0x00

-- commands that a changer is always ready for, those that it doesn't have, and READ ELEMENT STATUS
pub record StatusOfAChanger (a : VolumeTag) : Type 0 where
  pub ready : asked (one_volume a) TestUnitReady ≡ gives (one_volume a) []
  pub initialized : asked (one_volume a) InitializeElementStatus ≡ gives (one_volume a) []
  pub rewind : asked (one_volume a) Rewind ≡ checks (one_volume a) [] no_command
  pub mode_select : asked (one_volume a) (ModeSelect false 0) ≡ checks (one_volume a) [] no_command
  pub all_elements : asked (one_volume a) (ReadElementStatus false 0 0 0xffff false false 0x1000) ≡ gives (one_volume a)
      (0x00 ∷ 0x00 ∷ 0x00 ∷ 0x05 ∷ 0x00 ∷ 0x00 ∷ 0x00 ∷ 0x70 ∷ []
      ++ 0x01 ∷ 0x00 ∷ 0x00 ∷ 0x10 ∷ 0x00 ∷ 0x00 ∷ 0x00 ∷ 0x10 ∷ [] ++ replicate 16 0
      ++ 0x04 ∷ 0x00 ∷ 0x00 ∷ 0x10 ∷ 0x00 ∷ 0x00 ∷ 0x00 ∷ 0x10 ∷ [] ++ 0x01 ∷ 0x00 ∷ 0x08 ∷ [] ++ replicate 13 0
      ++ 0x03 ∷ 0x00 ∷ 0x00 ∷ 0x10 ∷ 0x00 ∷ 0x00 ∷ 0x00 ∷ 0x10 ∷ [] ++ 0x02 ∷ 0x00 ∷ 0x38 ∷ [] ++ replicate 13 0
      ++ 0x02 ∷ 0x00 ∷ 0x00 ∷ 0x10 ∷ 0x00 ∷ 0x00 ∷ 0x00 ∷ 0x20 ∷ [] ++ 0x04 ∷ 0x00 ∷ 0x09 ∷ [] ++ replicate 13 0
      ++ 0x04 ∷ 0x01 ∷ 0x08 ∷ [] ++ replicate 13 0)
  pub cut : asked (one_volume a) (ReadElementStatus false 0 0 0xffff false false 10)
      ≡ gives (one_volume a) (0x00 ∷ 0x00 ∷ 0x00 ∷ 0x05 ∷ 0x00 ∷ 0x00 ∷ 0x00 ∷ 0x70 ∷ 0x01 ∷ 0x00 ∷ [])
  pub first_two : asked (one_volume a) (ReadElementStatus false 0 0 2 true false 8)
      ≡ gives (one_volume a) (0x00 ∷ 0x00 ∷ 0x00 ∷ 0x02 ∷ 0x00 ∷ 0x00 ∷ 0x00 ∷ 0x30 ∷ [])
  pub no_elements : asked (one_volume a) (ReadElementStatus false 0 0 0 false false 255) ≡ gives (one_volume a) (replicate 8 0)
  pub port_with_its_tag : asked (two_volumes a told_tag) (ReadElementStatus true 3 0 0xffff false false 0x1000) ≡ gives (two_volumes a told_tag)
      (0x02 ∷ 0x00 ∷ 0x00 ∷ 0x01 ∷ 0x00 ∷ 0x00 ∷ 0x00 ∷ 0x3c ∷ []
      ++ 0x03 ∷ 0x80 ∷ 0x00 ∷ 0x34 ∷ 0x00 ∷ 0x00 ∷ 0x00 ∷ 0x34 ∷ []
      ++ 0x02 ∷ 0x00 ∷ 0x39 ∷ [] ++ replicate 9 0 ++ tag_bytes ++ replicate 8 0)
  pub empty_slot_with_tags : asked (one_volume a) (ReadElementStatus true 2 0x401 1 false false 0x1000) ≡ gives (one_volume a)
      (0x04 ∷ 0x01 ∷ 0x00 ∷ 0x01 ∷ 0x00 ∷ 0x00 ∷ 0x00 ∷ 0x3c ∷ []
      ++ 0x02 ∷ 0x80 ∷ 0x00 ∷ 0x34 ∷ 0x00 ∷ 0x00 ∷ 0x00 ∷ 0x34 ∷ []
      ++ 0x04 ∷ 0x01 ∷ 0x08 ∷ [] ++ replicate 49 0)
  pub full_drive : asked (library (Some a) None None None) (ReadElementStatus false 4 0 1 false false 0x1000)
      ≡ gives (library (Some a) None None None)
      (0x01 ∷ 0x00 ∷ 0x00 ∷ 0x01 ∷ 0x00 ∷ 0x00 ∷ 0x00 ∷ 0x18 ∷ []
      ++ 0x04 ∷ 0x00 ∷ 0x00 ∷ 0x10 ∷ 0x00 ∷ 0x00 ∷ 0x00 ∷ 0x10 ∷ [] ++ 0x01 ∷ 0x00 ∷ 0x09 ∷ [] ++ replicate 13 0)
  pub other_type : asked (one_volume a) (ReadElementStatus false 5 0 1 false false 255) ≡ checks (one_volume a) [] wrong_field
  pub identifiers : asked (one_volume a) (ReadElementStatus false 4 0 1 false true 255) ≡ checks (one_volume a) [] wrong_field

-- the mode data of that changer
abbrev pub assignment : List ℕ
assignment =
    0x17 ∷ 0x00 ∷ 0x00 ∷ 0x00 ∷ 0x1d ∷ 0x12 ∷ 0x00 ∷ 0x00 ∷ 0x00 ∷ 0x01 ∷ 0x04 ∷ 0x00 ∷ 0x00 ∷ 0x02
    ∷ 0x02 ∷ 0x00 ∷ 0x00 ∷ 0x01 ∷ 0x01 ∷ 0x00 ∷ 0x00 ∷ 0x01 ∷ 0x00 ∷ 0x00 ∷ []

-- MODE SENSE: the element address assignment page, which is all pages too; without import/export elements their first address still stands
pub record ModesOfAChanger (a : VolumeTag) : Type 0 where
  pub page : asked (one_volume a) (ModeSense false 0 0x1d 0x00 255) ≡ gives (one_volume a) assignment
  pub all_pages : asked (one_volume a) (ModeSense true 0 0x3f 0x00 24) ≡ gives (one_volume a) assignment
  pub cut : asked (one_volume a) (ModeSense false 0 0x1d 0x00 5) ≡ gives (one_volume a) (0x17 ∷ 0x00 ∷ 0x00 ∷ 0x00 ∷ 0x1d ∷ [])
  pub without_ports : asked (Changer (spec_changer (record { data_transfer = None ∷ None ∷ []; import_export = []; storage = None ∷ [] }))) (ModeSense false 0 0x3f 0x00 255)
      ≡ gives (Changer (spec_changer (record { data_transfer = None ∷ None ∷ []; import_export = []; storage = None ∷ [] })))
      (0x17 ∷ 0x00 ∷ 0x00 ∷ 0x00 ∷ 0x1d ∷ 0x12 ∷ 0x00 ∷ 0x00 ∷ 0x00 ∷ 0x01 ∷ 0x04 ∷ 0x00 ∷ 0x00 ∷ 0x01
      ∷ 0x02 ∷ 0x00 ∷ 0x00 ∷ 0x00 ∷ 0x01 ∷ 0x00 ∷ 0x00 ∷ 0x02 ∷ 0x00 ∷ 0x00 ∷ [])
  pub saved_values : asked (one_volume a) (ModeSense false 3 0x00 0x01 255)
      ≡ checks (one_volume a) [] (sense 0x70 0x05 0x00 0x00 0x00 0x00 0x39 0x00)
  pub changeable_values : asked (one_volume a) (ModeSense false 1 0x1d 0x00 255) ≡ checks (one_volume a) [] wrong_field
  pub default_values : asked (one_volume a) (ModeSense false 2 0x3f 0x00 255) ≡ checks (one_volume a) [] wrong_field
  pub subpage : asked (one_volume a) (ModeSense false 0 0x1d 0x01 255) ≡ checks (one_volume a) [] wrong_field
  pub no_page : asked (one_volume a) (ModeSense false 0 0x00 0x00 255) ≡ checks (one_volume a) [] wrong_field

abbrev pub move : (source destination : ℕ) → Request
move source destination = MoveMedium 0 source destination false

-- moves between storage and import/export elements
pub record MovesOfAChanger (a b : VolumeTag) : Type 0 where
  pub to_storage : asked (one_volume a) (move 0x400 0x401) ≡ gives (library None None None (Some (cartridge a))) []
  pub to_port : asked (one_volume a) (move 0x400 0x200) ≡ gives (library None (Some (cartridge a)) None None) []
  pub from_port : asked (two_volumes a b) (move 0x200 0x401)
      ≡ gives (library None None (Some (cartridge a)) (Some (cartridge b))) []
  pub onto_another : asked (two_volumes a b) (move 0x200 0x400) ≡ checks (two_volumes a b) [] destination_full
  pub onto_itself : asked (one_volume a) (move 0x400 0x400) ≡ checks (one_volume a) [] destination_full
  pub of_nothing : asked (one_volume a) (move 0x401 0x200) ≡ checks (one_volume a) [] source_empty
  pub empty_before_full : asked (one_volume a) (move 0x401 0x400) ≡ checks (one_volume a) [] source_empty
  pub nothing_onto_itself : asked (one_volume a) (move 0x401 0x401) ≡ checks (one_volume a) [] source_empty
  pub past_storage : asked (one_volume a) (move 0x400 0x402) ≡ checks (one_volume a) [] no_element
  pub address_before_empty : asked (one_volume a) (move 0x401 0x201) ≡ checks (one_volume a) [] no_element
  pub from_the_transport : asked (one_volume a) (move 0x000 0x401) ≡ checks (one_volume a) [] no_element
  pub to_the_transport : asked (one_volume a) (move 0x400 0x000) ≡ checks (one_volume a) [] no_element
  pub by_another_transport : asked (one_volume a) (MoveMedium 1 0x400 0x401 false) ≡ checks (one_volume a) [] no_element
  pub inverted : asked (one_volume a) (MoveMedium 0 0x400 0x402 true) ≡ checks (one_volume a) [] wrong_field

-- moves that name a drive: the changer tells what it knows, and no more
pub record MovesOfADrive (a b : VolumeTag) : Type 0 where
  pub into_a_drive : asked (one_volume a) (move 0x400 0x100) ≡ checks (one_volume a) [] internal_failure
  pub out_of_a_drive : asked (library (Some b) None None None) (move 0x100 0x401)
      ≡ checks (library (Some b) None None None) [] internal_failure
  pub into_a_full_drive : asked (library (Some b) None (Some (cartridge a)) None) (move 0x400 0x100)
      ≡ checks (library (Some b) None (Some (cartridge a)) None) [] destination_full
  pub onto_itself : asked (library (Some b) None None None) (move 0x100 0x100)
      ≡ checks (library (Some b) None None None) [] destination_full
  pub out_of_an_empty_drive : asked (one_volume a) (move 0x100 0x401) ≡ checks (one_volume a) [] source_empty
  pub nothing_into_a_drive : asked (one_volume a) (move 0x401 0x100) ≡ checks (one_volume a) [] source_empty
  pub into_a_second_drive : asked (one_volume a) (move 0x400 0x101) ≡ checks (one_volume a) [] no_element
  pub by_another_transport : asked (one_volume a) (MoveMedium 2 0x400 0x100 false) ≡ checks (one_volume a) [] no_element

-- what lies at which place, and what goes in and out there
pub record PlacesOfAChanger (a b : VolumeTag) : Type 0 where
  pub kind : kind_of (one_volume a) ≡ kind.Changer
  pub drives : drives_of (one_volume a) ≡ 1
  pub held_in_storage : held_in (two_volumes a b) 0x400 ≡ Some a
  pub held_in_no_storage : held_in (two_volumes a b) 0x401 ≡ None
  pub held_in_port : held_in (two_volumes a b) 0x200 ≡ Some b
  pub held_in_drive : held_in (library (Some b) None None None) 0x100 ≡ Some b
  pub held_in_transport : held_in (two_volumes a b) 0 ≡ None
  pub held_nowhere : held_in (two_volumes a b) 0x402 ≡ None
  pub taken_from_storage : taken (two_volumes a b) 0x400 ≡ Ok (cartridge a, library None (Some (cartridge b)) None None)
  pub taken_from_port : taken (two_volumes a b) 0x200 ≡ Ok (cartridge b, one_volume a)
  pub taken_from_nothing : taken (two_volumes a b) 0x401 ≡ Err take_fault.Empty
  pub taken_from_drive : taken (library (Some b) None None None) 0x100 ≡ Err take_fault.BadPlace
  pub taken_from_transport : taken (two_volumes a b) 0 ≡ Err take_fault.BadPlace
  pub taken_nowhere : taken (two_volumes a b) 0x402 ≡ Err take_fault.BadPlace
  pub put_in_storage : put (one_volume a) 0x401 (cartridge b) ≡ Ok (library None None (Some (cartridge a)) (Some (cartridge b)))
  pub put_in_port : put (one_volume a) 0x200 (cartridge b) ≡ Ok (two_volumes a b)
  pub put_on_another : put (one_volume a) 0x400 (cartridge b) ≡ Err put_fault.Full
  pub put_in_drive : put (one_volume a) 0x100 (cartridge b) ≡ Err put_fault.BadPlace
  pub put_in_transport : put (one_volume a) 0 (cartridge b) ≡ Err put_fault.BadPlace
  pub put_nowhere : put (one_volume a) 0x201 (cartridge b) ≡ Err put_fault.BadPlace
  pub marked_full : marked (library None None None None) 0x100 (Some a) ≡ Ok (library (Some a) None None None)
  pub marked_again : marked (library (Some a) None None None) 0x100 (Some b) ≡ Ok (library (Some b) None None None)
  pub marked_empty : marked (library (Some a) None None None) 0x100 None ≡ Ok (library None None None None)
  pub marked_at_storage : marked (one_volume a) 0x401 (Some b) ≡ Err record {}
  pub marked_at_port : marked (one_volume a) 0x200 (Some b) ≡ Err record {}
  pub marked_at_transport : marked (one_volume a) 0 (Some b) ≡ Err record {}
  pub marked_nowhere : marked (one_volume a) 0x101 (Some b) ≡ Err record {}
  pub reset : reset_of (two_volumes a b) ≡ two_volumes a b

-- two data transfer, two import/export and three storage elements: a tag is noted at the second of the first, and a volume lies in the second
-- import/export element
abbrev pub two_drives : (first second : Option VolumeTag) → (port : Option Volume) → DeviceView
two_drives first second port =
    Changer (spec_changer (record { data_transfer = first ∷ second ∷ []; import_export = None ∷ port ∷ []; storage = None ∷ None ∷ None ∷ [] }))

-- what is held, goes out and is noted there goes by the kind of element
pub record PlacesOfTwoDrives (a : VolumeTag) : Type 0 where
  pub kind : kind_of (two_drives None None None) ≡ kind.Changer
  pub drives : drives_of (two_drives None None None) ≡ 2
  pub marked_drive : marked (two_drives None None None) 0x101 (Some a) ≡ Ok (two_drives None (Some a) None)
  pub put_in : put (two_drives None (Some a) None) 0x201 (cartridge a) ≡ Ok (two_drives None (Some a) (Some (cartridge a)))
  pub held_in_transport : held_in (two_drives None (Some a) (Some (cartridge a))) 0 ≡ None
  pub held_in_empty_drive : held_in (two_drives None (Some a) (Some (cartridge a))) 0x100 ≡ None
  pub held_in_drive : held_in (two_drives None (Some a) (Some (cartridge a))) 0x101 ≡ Some a
  pub held_in_no_drive : held_in (two_drives None (Some a) (Some (cartridge a))) 0x102 ≡ None
  pub held_in_port : held_in (two_drives None (Some a) (Some (cartridge a))) 0x201 ≡ Some a
  pub taken_from_transport : taken (two_drives None (Some a) (Some (cartridge a))) 0 ≡ Err take_fault.BadPlace
  pub taken_from_drive : taken (two_drives None (Some a) (Some (cartridge a))) 0x101 ≡ Err take_fault.BadPlace
  pub taken_from_empty : taken (two_drives None (Some a) (Some (cartridge a))) 0x400 ≡ Err take_fault.Empty
  pub taken_out : taken (two_drives None (Some a) (Some (cartridge a))) 0x201 ≡ Ok (cartridge a, two_drives None (Some a) None)
  pub gone : held_in (two_drives None (Some a) None) 0x201 ≡ None
  pub marked_other_drive : marked (two_drives None (Some a) None) 0x100 (Some a) ≡ Ok (two_drives (Some a) (Some a) None)
  pub marked_slot : marked (two_drives None (Some a) None) 0x400 (Some a) ≡ Err record {}

-- one data transfer and two storage elements
abbrev pub two_slots : (mark : Option VolumeTag) → (first second : Option Volume) → DeviceView
two_slots mark first second = Changer (spec_changer (record { data_transfer = mark ∷ []; import_export = []; storage = first ∷ second ∷ [] }))

-- volumes that go in and out at storage elements, and stay where they are else; what goes into a drive or out of it is the target's to move
pub record SlotsOfAChanger (a b : VolumeTag) : Type 0 where
  pub drives : drives_of (two_slots None None None) ≡ 1
  pub put_in : put (two_slots None None None) 0x400 (cartridge a) ≡ Ok (two_slots None (Some (cartridge a)) None)
  pub taken_from_empty : taken (two_slots None (Some (cartridge a)) None) 0x401 ≡ Err take_fault.Empty
  pub taken_from_drive : taken (two_slots None (Some (cartridge a)) None) 0x100 ≡ Err take_fault.BadPlace
  pub put_on_another : put (two_slots None (Some (cartridge a)) None) 0x400 (cartridge b) ≡ Err put_fault.Full
  pub held : held_in (two_slots None (Some (cartridge a)) None) 0x400 ≡ Some a
  pub put_in_drive : put (two_slots None (Some (cartridge a)) None) 0x100 (cartridge b) ≡ Err put_fault.BadPlace
  pub taken_out : taken (two_slots None (Some (cartridge a)) None) 0x400 ≡ Ok (cartridge a, two_slots None None None)
  pub put_in_second : put (two_slots None None None) 0x401 (cartridge b) ≡ Ok (two_slots None None (Some (cartridge b)))
  pub reset : reset_of (two_slots None None (Some (cartridge b))) ≡ two_slots None None (Some (cartridge b))
  pub held_in_first : held_in (two_slots None None (Some (cartridge b))) 0x400 ≡ None
  pub held_in_second : held_in (two_slots None None (Some (cartridge b))) 0x401 ≡ Some b
  pub held_in_drive : held_in (two_slots None None (Some (cartridge b))) 0x100 ≡ None

-- MOVE MEDIUM goes by the marks of drives
pub record MovesByMarks (a b : VolumeTag) : Type 0 where
  pub into_drive : asked (two_slots None (Some (cartridge a)) None) (move 0x400 0x100)
      ≡ checks (two_slots None (Some (cartridge a)) None) [] internal_failure
  pub marked_drive : marked (two_slots None (Some (cartridge a)) None) 0x100 (Some b) ≡ Ok (two_slots (Some b) (Some (cartridge a)) None)
  pub unmarked_no_drive : marked (two_slots (Some b) (Some (cartridge a)) None) 0x101 None ≡ Err record {}
  pub unmarked_slot : marked (two_slots (Some b) (Some (cartridge a)) None) 0x400 None ≡ Err record {}
  pub held : held_in (two_slots (Some b) (Some (cartridge a)) None) 0x100 ≡ Some b
  pub into_marked_drive : asked (two_slots (Some b) (Some (cartridge a)) None) (move 0x400 0x100)
      ≡ checks (two_slots (Some b) (Some (cartridge a)) None) [] destination_full
  pub out_of_marked_drive : asked (two_slots (Some b) (Some (cartridge a)) None) (move 0x100 0x401)
      ≡ checks (two_slots (Some b) (Some (cartridge a)) None) [] internal_failure
  pub unmarked : marked (two_slots (Some b) (Some (cartridge a)) None) 0x100 None ≡ Ok (two_slots None (Some (cartridge a)) None)
  pub out_of_drive : asked (two_slots None (Some (cartridge a)) None) (move 0x100 0x401)
      ≡ checks (two_slots None (Some (cartridge a)) None) [] source_empty
  pub stays : held_in (two_slots None (Some (cartridge a)) None) 0x400 ≡ Some a
