-- What the data of a reply are, by the CDB of the command and the commands of the unit that it was sent to.
use Rattle.std.specs.Prelude.{ℕ, ◌==◌, true, false, List, Result, Ok, Err, if◌then◌else◌}
use Rattle.scsi_cdb.specs.Commands.{decoded}
use Rattle.scsi_cdb.specs.declared.action.InServiceAction.{InServiceAction}
use Rattle.scsi_cdb.specs.declared.action.InServiceAction.TheVariants.{ReadKeys, ReadReservation, ReportCapabilities, ReadFullStatus}
use Rattle.scsi_cdb.specs.declared.fault.CdbFault.{CdbFault}
use Rattle.scsi_cdb.specs.declared.host_request.HostRequest.{HostRequest}
use Rattle.scsi_cdb.specs.declared.host_request.HostRequest.TheVariants as host
use Rattle.scsi_cdb.specs.declared.profile.CommandSet.{CommandSet}
use Rattle.scsi_cdb.specs.declared.request.Request.{Request}
use Rattle.scsi_cdb.specs.declared.request.Request.TheVariants.{Inquiry, ModeSense, ReadPosition, PersistentReserveIn, ReportLuns, ReadElementStatus, Host}
use Rattle.explanations.specs.declared.contents.Contents.{Contents}
use Rattle.explanations.specs.declared.contents.Contents.TheVariants as is
use Rattle.explanations.specs.declared.reservations.ReservationList.TheVariants as lists

abbrev pub contents_of_action : InServiceAction → Contents
contents_of_action ReadKeys = is.Reservations lists.Keys
contents_of_action ReadReservation = is.Reservations lists.Reservation
contents_of_action ReadFullStatus = is.Reservations lists.Registrations
contents_of_action ReportCapabilities = is.Other

-- a list of commands is asked for by REPORTING OPTIONS 0, and one command by the others
abbrev pub contents_of_host_request : HostRequest → Contents
contents_of_host_request (host.ModeSense10 disable_block_descriptors page_control page subpage allocation_length) = is.LongModeParameters
contents_of_host_request (host.LogSense pointer_control save page_control page subpage pointer allocation_length) = is.LogPage
contents_of_host_request (host.ReportSupportedOperationCodes timeouts options code action allocation_length) =
    if options == 0 then is.Commands timeouts else is.Command
contents_of_host_request (host.ReportSupportedTaskManagementFunctions extended allocation_length) = is.TaskManagement
contents_of_host_request request = is.Other

abbrev pub contents_of_request : Request → Contents
contents_of_request (PersistentReserveIn action allocation_length) = contents_of_action action
contents_of_request (Inquiry false page allocation_length) = is.StandardInquiry
contents_of_request (Inquiry true page allocation_length) = is.VitalProductData
contents_of_request (ModeSense disable_block_descriptors page_control page subpage allocation_length) = is.ModeParameters
contents_of_request ReadPosition = is.Position
contents_of_request (ReportLuns select_report allocation_length) = is.LogicalUnits
contents_of_request (ReadElementStatus tags type start count current_data identifiers allocation_length) = is.Elements
contents_of_request (Host request) = contents_of_host_request request
contents_of_request request = is.Other

-- data of bytes that are no command of such a unit aren't read
abbrev pub contents_of_decoded : Result Request CdbFault → Contents
contents_of_decoded (Ok request) = contents_of_request request
contents_of_decoded (Err fault) = is.Other

abbrev pub contents_of : CommandSet → (cdb : List ℕ) → Contents
contents_of commands cdb = contents_of_decoded (decoded commands cdb)
