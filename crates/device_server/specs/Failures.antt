-- Which devices end which commands by INTERNAL TARGET FAILURE, 44h/00h (SPC-4, "Sense key and additional sense code definitions"): no drive
-- any, and a changer just a MOVE MEDIUM or an EXCHANGE MEDIUM that its map and marks don't refuse and that takes a volume out of a drive or into
-- one.
use Rattle.std.specs.Prelude.{◌≡◌, ℕ, ◌&&◌, ◌||◌, not, Bool, true, false, List, Option, Some, None, is_none, is_some}
use Rattle.scsi_cdb.specs.declared.host_request.HostRequest.{HostRequest}
use Rattle.scsi_cdb.specs.declared.host_request.HostRequest.TheVariants.{ExchangeMedium}
use Rattle.scsi_cdb.specs.declared.request.Request.{Request}
use Rattle.scsi_cdb.specs.declared.request.Request.TheVariants.{MoveMedium, Host}
use Rattle.scsi_sense.specs.Conditions.{has_codes_of}
use Rattle.scsi_sense.specs.declared.condition.Condition.TheVariants.{InternalTargetFailure}
use Rattle.scsi_sense.specs.declared.sense.Sense.{Sense}
use Rattle.tape_medium.specs.Elements.{Elements, Element, DataTransfer, element_at, move_refusal}
use Rattle.element_map.specs.Exchange.{has_drive, exchange_refusal}
use Rattle.device_server.specs.Drive.{DriveView}
use Rattle.device_server.specs.HostChanger.{ChangerView}
use Rattle.device_server.specs.View.{DeviceView, Drive, Changer, performed}

-- whether sense data tells of one
abbrev pub is_failure : Option Sense → Bool
is_failure None = false
is_failure (Some sense) = has_codes_of sense InternalTargetFailure

-- whether an element is a drive's
abbrev pub is_data_transfer : Element → Bool
is_data_transfer (DataTransfer i) = true
is_data_transfer at = false

-- whether a command is a move that nothing refuses, but that isn't one for the changer alone
abbrev pub is_exchange_for_drives : Elements → HostRequest → Bool
is_exchange_for_drives e (ExchangeMedium transport source first second inv1 inv2) =
    not (inv1 || inv2) && (is_none (exchange_refusal e transport source first second) && has_drive e source first second)
is_exchange_for_drives e command = false

abbrev pub is_for_drives : ChangerView → Request → Bool
is_for_drives c (MoveMedium transport source destination invert) =
    not invert && (is_none (move_refusal c.elements transport source destination) && (is_data_transfer (element_at c.elements source) || is_data_transfer
    (element_at c.elements destination)))
is_for_drives c (Host command) = is_some c.hosts && is_exchange_for_drives c.elements command
is_for_drives c request = false

-- whether a device leaves a command to the drives, which no drive does
abbrev pub leaves_to_drives : DeviceView → Request → Bool
leaves_to_drives (Drive d) request = false
leaves_to_drives (Changer c) request = is_for_drives c request

abbrev pub DrivesNeverFail : Type 0
DrivesNeverFail = (d : DriveView) (request : Request) (bytes : List ℕ) → is_failure (performed (Drive d) request bytes).1.sense ≡ false

abbrev pub ChangersFailForDrives : Type 0
ChangersFailForDrives = (c : ChangerView) (request : Request) (bytes : List ℕ) → is_failure (performed (Changer c) request bytes).1.sense ≡ is_for_drives c request
