-- Worked rows: which sense data tells of an internal target failure, and which commands a changer ends by it. It has one data transfer, one
-- import/export and two storage elements.
use Rattle.std.specs.Prelude.{◌≡◌, ℕ, Bool, true, false, [], ◌∷◌, Option, Some, None}
use Rattle.scsi_cdb.specs.declared.host_request.HostRequest.{HostRequest}
use Rattle.scsi_cdb.specs.declared.host_request.HostRequest.TheVariants.{ExchangeMedium}
use Rattle.scsi_cdb.specs.declared.request.Request.TheVariants.{TestUnitReady, MoveMedium, Host}
use Rattle.scsi_sense.specs.declared.condition.Condition.TheVariants.{InternalTargetFailure, MediumNotPresent, MediumRemovalPrevented}
use Rattle.scsi_sense.specs.Conditions.{sense_for}
use Rattle.tape_medium.specs.declared.volume.VolumeTag.{VolumeTag}
use Rattle.tape_medium.specs.declared.volume.Volume.{Volume}
use Rattle.device_server.specs.ChangerRows.{cartridge, move}
use Rattle.device_server.specs.Failures.{is_failure, is_exchange_for_drives, is_for_drives}
use Rattle.device_server.specs.HostChanger.{ChangerView, spec_changer}

-- what is noted at the data transfer element, and the volume in the first storage element
abbrev pub elements : (mark : Option VolumeTag) → (first : Option Volume) → ChangerView
elements mark first = spec_changer (record { data_transfer = mark ∷ []; import_export = None ∷ []; storage = first ∷ None ∷ [] })

-- an exchange by its addresses
abbrev pub exchange : (source first second : ℕ) → (inv1 : Bool) → HostRequest
exchange source first second inv1 = ExchangeMedium 0 source first second inv1 false

pub record FailuresOfAChanger (a b : VolumeTag) : Type 0 where
  pub failure : is_failure (Some (sense_for InternalTargetFailure)) ≡ true
  pub no_sense_data : is_failure None ≡ false
  pub empty_drive : is_failure (Some (sense_for MediumNotPresent)) ≡ false
  pub prevented : is_failure (Some (sense_for MediumRemovalPrevented)) ≡ false
  pub into_a_drive : is_for_drives (elements None (Some (cartridge a))) (move 0x400 0x100) ≡ true
  pub out_of_a_drive : is_for_drives (elements (Some b) None) (move 0x100 0x401) ≡ true
  pub between_elements : is_for_drives (elements None (Some (cartridge a))) (move 0x400 0x200) ≡ false
  pub into_a_full_drive : is_for_drives (elements (Some b) (Some (cartridge a))) (move 0x400 0x100) ≡ false
  pub out_of_an_empty_drive : is_for_drives (elements None None) (move 0x100 0x401) ≡ false
  pub into_no_drive : is_for_drives (elements None (Some (cartridge a))) (move 0x400 0x101) ≡ false
  pub by_another_transport : is_for_drives (elements None (Some (cartridge a))) (MoveMedium 1 0x400 0x100 false) ≡ false
  pub inverted : is_for_drives (elements None (Some (cartridge a))) (MoveMedium 0 0x400 0x100 true) ≡ false
  pub ready : is_for_drives (elements None (Some (cartridge a))) TestUnitReady ≡ false
  pub exchange_with_a_drive : is_exchange_for_drives (elements (Some b) (Some (cartridge a))).elements (exchange 0x400 0x100 0x401 false) ≡ true
  pub swap_with_a_drive : is_exchange_for_drives (elements (Some b) (Some (cartridge a))).elements (exchange 0x100 0x400 0x100 false) ≡ true
  pub exchange_with_an_empty_drive : is_exchange_for_drives (elements None (Some (cartridge a))).elements (exchange 0x400 0x100 0x401 false) ≡ false
  pub exchange_turned_over : is_exchange_for_drives (elements (Some b) (Some (cartridge a))).elements (exchange 0x400 0x100 0x401 true) ≡ false
  pub no_exchange_by_default : is_for_drives (elements (Some b) (Some (cartridge a))) (Host (exchange 0x400 0x100 0x401 false)) ≡ false
