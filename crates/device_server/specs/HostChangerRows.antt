-- Worked rows: what a host gets from a changer of the hosts' profile, byte by byte, and the changer after it. It has one data transfer and three
-- storage elements.
use Rattle.std.specs.Prelude.{◌≡◌, ℕ, true, false, [], ◌∷◌, ◌++◌, Option, Some, None}
use Rattle.scsi_cdb.specs.declared.host_request.HostRequest.TheVariants.{SendDiagnostic, LogSelect, LogSense, ModeSelect10, ModeSense10, ReportSupportedOperationCodes, ReportSupportedTaskManagementFunctions, PositionToElement, InitializeElementStatusWithRange, ExchangeMedium}
use Rattle.scsi_cdb.specs.declared.profile.Profile.TheVariants.{Hosts}
use Rattle.scsi_cdb.specs.declared.request.Request.{Request}
use Rattle.scsi_cdb.specs.declared.request.Request.TheVariants.{TestUnitReady, ModeSense, ReadElementStatus, Host}
use Rattle.tape_medium.specs.declared.volume.VolumeTag.{VolumeTag}
use Rattle.tape_medium.specs.declared.volume.Volume.{Volume}
use Rattle.inquiry_data.specs.Identity as identity
use Rattle.inquiry_data.specs.declared.unit_identity.UnitIdentity.{UnitIdentity}
use Rattle.unit_attention.specs.declared.kind.Kind.TheVariants.{LogParametersChanged}
use Rattle.device_server.specs.HostChanger.{host_view}
use Rattle.device_server.specs.View.{DeviceView, Changer, identity_of, profile_of, journeyed, exchange_journeyed, reset_of}
use Rattle.device_server.specs.Rows.{asked, gives, checks, selects}
use Rattle.device_server.specs.ChangerRows.{cartridge, no_command, wrong_field, no_element, source_empty, destination_full, internal_failure, move}

-- the changer of library 1A2B3C4Dh
abbrev pub changer_identity : UnitIdentity
changer_identity = identity.unit (identity.library 0x1A2B3C4D) 0

-- what is noted at the data transfer element, the volumes in the storage elements, and the sources of each
abbrev pub library : (mark : Option VolumeTag) → (first second third : Option Volume) → (of_drive of_first of_second of_third : Option ℕ) → DeviceView
library mark first second third of_drive of_first of_second of_third =
    Changer (host_view
    (record { data_transfer = mark ∷ []; import_export = []; storage = first ∷ second ∷ third ∷ [] })
    (record { identity = changer_identity; sources = record { data_transfer = of_drive ∷ []; import_export = []; storage = of_first ∷ of_second ∷ of_third ∷ [] } }))

-- one volume in the second storage element, from nowhere
abbrev pub one_volume : VolumeTag → DeviceView
one_volume a = library None None (Some (cartridge a)) None None None None None

-- that volume in the drive, from 0401h
abbrev pub in_drive : VolumeTag → DeviceView
in_drive a = library (Some a) None None None (Some 0x401) None None None

-- journeys: into the drive and out of it again, and moves that are the changer's own
pub record JourneysForHosts (a : VolumeTag) : Type 0 where
  pub profile : profile_of (one_volume a) ≡ Hosts
  pub identity : identity_of (one_volume a) ≡ Some changer_identity
  pub into_drive : journeyed (library (Some a) None None None None None None None) 0x401 0x100 ≡ in_drive a
  pub source : asked (in_drive a) (ReadElementStatus false 4 0 0xFFFF false false 0x1000) ≡ gives (in_drive a)
      (0x01 ∷ 0x00 ∷ 0x00 ∷ 0x01 ∷ 0x00 ∷ 0x00 ∷ 0x00 ∷ 0x18 ∷ []
      ++ 0x04 ∷ 0x00 ∷ 0x00 ∷ 0x10 ∷ 0x00 ∷ 0x00 ∷ 0x00 ∷ 0x10 ∷ []
      ++ 0x01 ∷ 0x00 ∷ 0x09 ∷ 0x00 ∷ 0x00 ∷ 0x00 ∷ 0x11 ∷ 0x00 ∷ 0x00 ∷ 0x81 ∷ 0x04 ∷ 0x01 ∷ 0x00 ∷ 0x00 ∷ 0x00 ∷ 0x00 ∷ [])
  pub out_of_drive : journeyed (library None None None (Some (cartridge a)) (Some 0x401) None None None) 0x100 0x402
      ≡ library None None None (Some (cartridge a)) None None None (Some 0x401)
  pub source_there : asked (library None None None (Some (cartridge a)) None None None (Some 0x401)) (ReadElementStatus false 2 0x402 1 false false 0x1000)
      ≡ gives (library None None None (Some (cartridge a)) None None None (Some 0x401))
      (0x04 ∷ 0x02 ∷ 0x00 ∷ 0x01 ∷ 0x00 ∷ 0x00 ∷ 0x00 ∷ 0x18 ∷ []
      ++ 0x02 ∷ 0x00 ∷ 0x00 ∷ 0x10 ∷ 0x00 ∷ 0x00 ∷ 0x00 ∷ 0x10 ∷ []
      ++ 0x04 ∷ 0x02 ∷ 0x09 ∷ 0x00 ∷ 0x00 ∷ 0x00 ∷ 0x00 ∷ 0x00 ∷ 0x00 ∷ 0x81 ∷ 0x04 ∷ 0x01 ∷ 0x00 ∷ 0x00 ∷ 0x00 ∷ 0x00 ∷ [])
  pub moved : asked (one_volume a) (move 0x401 0x400) ≡ gives (library None (Some (cartridge a)) None None None (Some 0x401) None None) []
  pub moved_on : asked (library None (Some (cartridge a)) None None None (Some 0x401) None None) (move 0x400 0x402)
      ≡ gives (library None None None (Some (cartridge a)) None None None (Some 0x400)) []
  pub nothing_moved : asked (one_volume a) (move 0x400 0x402) ≡ checks (one_volume a) [] source_empty
  pub reset : reset_of (in_drive a) ≡ in_drive a

-- an exchange by its addresses, with the transport 0
abbrev pub exchange : (source first second : ℕ) → Request
exchange source first second = Host (ExchangeMedium 0 source first second false false)

-- two volumes in the first and the second storage element
abbrev pub two_volumes : (a b : VolumeTag) → DeviceView
two_volumes a b = library None (Some (cartridge a)) (Some (cartridge b)) None None None None None

-- the second in the drive, from 0401h
abbrev pub second_in_drive : (a b : VolumeTag) → DeviceView
second_in_drive a b = library (Some b) (Some (cartridge a)) None None (Some 0x401) None None None

-- exchanges that are the changer's own, and those that it refuses or leaves to the drive
pub record ExchangesForHosts (a b : VolumeTag) : Type 0 where
  pub exchanged : asked (two_volumes a b) (exchange 0x400 0x401 0x402)
      ≡ gives (library None None (Some (cartridge a)) (Some (cartridge b)) None None (Some 0x400) (Some 0x401)) []
  pub swapped : asked (two_volumes a b) (exchange 0x400 0x401 0x400)
      ≡ gives (library None (Some (cartridge b)) (Some (cartridge a)) None None (Some 0x401) (Some 0x400) None) []
  pub onto_itself : asked (two_volumes a b) (exchange 0x400 0x400 0x402) ≡ checks (two_volumes a b) [] no_element
  pub first_is_second : asked (two_volumes a b) (exchange 0x400 0x401 0x401) ≡ checks (two_volumes a b) [] no_element
  pub nothing_at_the_source : asked (two_volumes a b) (exchange 0x402 0x401 0x400) ≡ checks (two_volumes a b) [] source_empty
  pub nothing_at_the_first : asked (two_volumes a b) (exchange 0x400 0x402 0x400) ≡ checks (two_volumes a b) [] source_empty
  pub second_full : asked (library None (Some (cartridge a)) (Some (cartridge b)) (Some (cartridge a)) None None None None) (exchange 0x400 0x401 0x402)
      ≡ checks (library None (Some (cartridge a)) (Some (cartridge b)) (Some (cartridge a)) None None None None) [] destination_full
  pub no_such_second : asked (two_volumes a b) (exchange 0x400 0x401 0x403) ≡ checks (two_volumes a b) [] no_element
  pub into_no_drive : asked (two_volumes a b) (exchange 0x400 0x401 0x101) ≡ checks (two_volumes a b) [] no_element
  pub transport_as_source : asked (two_volumes a b) (exchange 0 0x401 0x402) ≡ checks (two_volumes a b) [] no_element
  pub by_another_transport : asked (two_volumes a b) (Host (ExchangeMedium 1 0x400 0x401 0x402 false false)) ≡ checks (two_volumes a b) [] no_element
  pub first_turned_over : asked (two_volumes a b) (Host (ExchangeMedium 1 0x400 0x401 0x402 true false)) ≡ checks (two_volumes a b) [] wrong_field
  pub second_turned_over : asked (two_volumes a b) (Host (ExchangeMedium 1 0x400 0x401 0x402 false true)) ≡ checks (two_volumes a b) [] wrong_field
  pub with_the_drive : asked (second_in_drive a b) (exchange 0x400 0x100 0x402) ≡ checks (second_in_drive a b) [] internal_failure
  pub with_the_empty_drive : asked (two_volumes a b) (exchange 0x400 0x100 0x402) ≡ checks (two_volumes a b) [] source_empty
  pub noted : exchange_journeyed (library (Some a) None None (Some (cartridge b)) (Some 0x401) None None None) 0x400 0x100 0x402
      ≡ library (Some a) None None (Some (cartridge b)) (Some 0x400) None None (Some 0x401)
  pub swap_noted : exchange_journeyed (library (Some a) (Some (cartridge b)) None None (Some 0x401) None None None) 0x400 0x100 0x400
      ≡ library (Some a) (Some (cartridge b)) None None (Some 0x400) (Some 0x401) None None

-- with DVCID the drive's identity
pub record IdentitiesForHosts (a : VolumeTag) : Type 0 where
  pub drive : asked (in_drive a) (ReadElementStatus false 4 0 0xFFFF false true 0x1000) ≡ gives (in_drive a)
      (0x01 ∷ 0x00 ∷ 0x00 ∷ 0x01 ∷ 0x00 ∷ 0x00 ∷ 0x00 ∷ 0x3A ∷ []
      ++ 0x04 ∷ 0x00 ∷ 0x00 ∷ 0x32 ∷ 0x00 ∷ 0x00 ∷ 0x00 ∷ 0x32 ∷ []
      ++ 0x01 ∷ 0x00 ∷ 0x09 ∷ 0x00 ∷ 0x00 ∷ 0x00 ∷ 0x11 ∷ 0x00 ∷ 0x00 ∷ 0x81 ∷ 0x04 ∷ 0x01 ∷ []
      ++ 0x02 ∷ 0x01 ∷ 0x00 ∷ 0x22 ∷ 0x56 ∷ 0x54 ∷ 0x4C ∷ 0x49 ∷ 0x42 ∷ 0x20 ∷ 0x20 ∷ 0x20 ∷ 0x54 ∷ 0x41 ∷ 0x50 ∷ 0x45 ∷ 0x20 ∷ 0x44 ∷ 0x52
      ∷ 0x49 ∷ 0x56 ∷ 0x45 ∷ 0x20 ∷ 0x20 ∷ 0x20 ∷ 0x20 ∷ 0x20 ∷ 0x20 ∷ 0x31 ∷ 0x41 ∷ 0x32 ∷ 0x42 ∷ 0x33 ∷ 0x43 ∷ 0x34 ∷ 0x44 ∷ 0x30 ∷ 0x31 ∷ [])
  pub other_type : asked (in_drive a) (ReadElementStatus false 5 0 1 false true 255) ≡ checks (in_drive a) [] wrong_field

-- modes, logs, and the commands that only this profile has
pub record AnswersOfAHostsChanger (a : VolumeTag) : Type 0 where
  pub ready : asked (one_volume a) TestUnitReady ≡ gives (one_volume a) []
  pub rotation : asked (one_volume a) (ModeSense false 0 0x1E 0x00 255)
      ≡ gives (one_volume a) (0x07 ∷ 0x00 ∷ 0x00 ∷ 0x00 ∷ 0x1E ∷ 0x02 ∷ 0x00 ∷ 0x00 ∷ [])
  pub assignment_by_ten : asked (one_volume a) (Host (ModeSense10 false 0 0x1D 0x00 255)) ≡ gives (one_volume a)
      (0x00 ∷ 0x1A ∷ 0x00 ∷ 0x00 ∷ 0x00 ∷ 0x00 ∷ 0x00 ∷ 0x00 ∷ 0x1D ∷ 0x12 ∷ 0x00 ∷ 0x00 ∷ 0x00 ∷ 0x01 ∷ 0x04 ∷ 0x00 ∷ 0x00 ∷ 0x03
      ∷ 0x02 ∷ 0x00 ∷ 0x00 ∷ 0x00 ∷ 0x01 ∷ 0x00 ∷ 0x00 ∷ 0x01 ∷ 0x00 ∷ 0x00 ∷ [])
  pub page_of_drives : asked (one_volume a) (ModeSense false 0 0x0F 0x00 255) ≡ checks (one_volume a) [] wrong_field
  pub log_pages : asked (one_volume a) (Host (LogSense false false 0 0x00 0x00 0 255))
      ≡ gives (one_volume a) (0x00 ∷ 0x00 ∷ 0x00 ∷ 0x02 ∷ 0x00 ∷ 0x2E ∷ [])
  pub log_of_drives : asked (one_volume a) (Host (LogSense false false 0 0x0C 0x00 0 255)) ≡ checks (one_volume a) [] wrong_field
  pub logs_reset : asked (one_volume a) (Host (LogSelect true false 3 0x00 0x00 0)) ≡ selects (one_volume a) (Some LogParametersChanged)
  pub no_mode_select : asked (one_volume a) (Host (ModeSelect10 false 0)) ≡ checks (one_volume a) [] no_command
  pub move_medium : asked (one_volume a) (Host (ReportSupportedOperationCodes false 1 0xA5 0 255)) ≡ gives (one_volume a)
      (0x00 ∷ 0x03 ∷ 0x00 ∷ 0x0C ∷ 0xA5 ∷ 0x00 ∷ 0xFF ∷ 0xFF ∷ 0xFF ∷ 0xFF ∷ 0xFF ∷ 0xFF ∷ 0x00 ∷ 0x00 ∷ 0x01 ∷ 0x04 ∷ [])
  pub task_management : asked (one_volume a) (Host (ReportSupportedTaskManagementFunctions false 4)) ≡ gives (one_volume a) (0xCA ∷ 0x00 ∷ 0x00 ∷ 0x00 ∷ [])
  pub self_test : asked (one_volume a) (Host (SendDiagnostic 0 true 0)) ≡ gives (one_volume a) []
  pub at_a_slot : asked (one_volume a) (Host (PositionToElement 0 0x402 false)) ≡ gives (one_volume a) []
  pub at_the_drive : asked (one_volume a) (Host (PositionToElement 0 0x100 false)) ≡ gives (one_volume a) []
  pub at_the_transport : asked (one_volume a) (Host (PositionToElement 0 0 false)) ≡ checks (one_volume a) [] no_element
  pub past_the_last_slot : asked (one_volume a) (Host (PositionToElement 0 0x403 false)) ≡ checks (one_volume a) [] no_element
  pub by_another_transport : asked (one_volume a) (Host (PositionToElement 1 0x402 false)) ≡ checks (one_volume a) [] no_element
  pub turned_over : asked (one_volume a) (Host (PositionToElement 1 0x403 true)) ≡ checks (one_volume a) [] wrong_field
  pub initialized : asked (one_volume a) (Host (InitializeElementStatusWithRange true true 0x700 0)) ≡ gives (one_volume a) []
