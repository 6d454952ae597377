-- The codes of RFC 7143's fields, and what each code stands for.
use Rattle.std.specs.Prelude.{ℕ, ◌==◌, if◌then◌else◌}
use Rattle.iscsi_pdu.specs.declared.scsi_status.ScsiStatus.{ScsiStatus}
use Rattle.iscsi_pdu.specs.declared.scsi_status.ScsiStatus.TheVariants as scsi_status
use Rattle.iscsi_pdu.specs.declared.service_response.ServiceResponse.{ServiceResponse}
use Rattle.iscsi_pdu.specs.declared.service_response.ServiceResponse.TheVariants as service_response
use Rattle.iscsi_pdu.specs.declared.task_attribute.TaskAttribute.{TaskAttribute}
use Rattle.iscsi_pdu.specs.declared.task_attribute.TaskAttribute.TheVariants as task_attribute
use Rattle.iscsi_pdu.specs.declared.task_management.TaskManagementFunction.{TaskManagementFunction}
use Rattle.iscsi_pdu.specs.declared.task_management.TaskManagementFunction.TheVariants as task_management_function
use Rattle.iscsi_pdu.specs.declared.task_management_result.TaskManagementResult.{TaskManagementResult}
use Rattle.iscsi_pdu.specs.declared.task_management_result.TaskManagementResult.TheVariants as task_management_result
use Rattle.iscsi_pdu.specs.declared.stage.Stage.{Stage}
use Rattle.iscsi_pdu.specs.declared.stage.Stage.TheVariants as stage
use Rattle.iscsi_pdu.specs.declared.logout.LogoutReason.{LogoutReason}
use Rattle.iscsi_pdu.specs.declared.logout.LogoutReason.TheVariants as logout_reason
use Rattle.iscsi_pdu.specs.declared.logout.LogoutResult.{LogoutResult}
use Rattle.iscsi_pdu.specs.declared.logout.LogoutResult.TheVariants as logout_result
use Rattle.iscsi_pdu.specs.declared.reject_reason.RejectReason.{RejectReason}
use Rattle.iscsi_pdu.specs.declared.reject_reason.RejectReason.TheVariants as reject_reason
use Rattle.iscsi_pdu.specs.declared.async_event.AsyncEvent.{AsyncEvent}
use Rattle.iscsi_pdu.specs.declared.async_event.AsyncEvent.TheVariants as async_event
use Rattle.iscsi_pdu.specs.declared.snack_type.SnackType.{SnackType}
use Rattle.iscsi_pdu.specs.declared.snack_type.SnackType.TheVariants as snack_type
use Rattle.iscsi_pdu.specs.declared.login_status.LoginStatus.{LoginStatus}
use Rattle.iscsi_pdu.specs.declared.login_status.LoginStatus.TheVariants as login_status

abbrev pub scsi_status_code : ScsiStatus → ℕ
scsi_status_code scsi_status.Good = 0x00
scsi_status_code scsi_status.CheckCondition = 0x02
scsi_status_code scsi_status.ConditionMet = 0x04
scsi_status_code scsi_status.Busy = 0x08
scsi_status_code scsi_status.ReservationConflict = 0x18
scsi_status_code scsi_status.TaskSetFull = 0x28
scsi_status_code scsi_status.AcaActive = 0x30
scsi_status_code scsi_status.TaskAborted = 0x40
scsi_status_code scsi_status.Reserved = 0xFF

abbrev pub scsi_status_of : ℕ → ScsiStatus
scsi_status_of code =
    if code == 0x00 then scsi_status.Good
    else if code == 0x02 then scsi_status.CheckCondition
    else if code == 0x04 then scsi_status.ConditionMet
    else if code == 0x08 then scsi_status.Busy
    else if code == 0x18 then scsi_status.ReservationConflict
    else if code == 0x28 then scsi_status.TaskSetFull
    else if code == 0x30 then scsi_status.AcaActive
    else if code == 0x40 then scsi_status.TaskAborted
    else scsi_status.Reserved

abbrev pub service_response_code : ServiceResponse → ℕ
service_response_code service_response.CommandCompletedAtTarget = 0x00
service_response_code service_response.TargetFailure = 0x01
service_response_code service_response.Reserved = 0x02

abbrev pub service_response_of : ℕ → ServiceResponse
service_response_of code =
    if code == 0x00 then service_response.CommandCompletedAtTarget
    else if code == 0x01 then service_response.TargetFailure
    else service_response.Reserved

abbrev pub task_attribute_code : TaskAttribute → ℕ
task_attribute_code task_attribute.Untagged = 0x00
task_attribute_code task_attribute.Simple = 0x01
task_attribute_code task_attribute.Ordered = 0x02
task_attribute_code task_attribute.HeadOfQueue = 0x03
task_attribute_code task_attribute.Aca = 0x04
task_attribute_code task_attribute.Reserved = 0x07

abbrev pub task_attribute_of : ℕ → TaskAttribute
task_attribute_of code =
    if code == 0x00 then task_attribute.Untagged
    else if code == 0x01 then task_attribute.Simple
    else if code == 0x02 then task_attribute.Ordered
    else if code == 0x03 then task_attribute.HeadOfQueue
    else if code == 0x04 then task_attribute.Aca
    else task_attribute.Reserved

abbrev pub task_management_function_code : TaskManagementFunction → ℕ
task_management_function_code task_management_function.AbortTask = 0x01
task_management_function_code task_management_function.AbortTaskSet = 0x02
task_management_function_code task_management_function.ClearAca = 0x03
task_management_function_code task_management_function.ClearTaskSet = 0x04
task_management_function_code task_management_function.LogicalUnitReset = 0x05
task_management_function_code task_management_function.TargetWarmReset = 0x06
task_management_function_code task_management_function.TargetColdReset = 0x07
task_management_function_code task_management_function.TaskReassign = 0x08
task_management_function_code task_management_function.Reserved = 0x00

abbrev pub task_management_function_of : ℕ → TaskManagementFunction
task_management_function_of code =
    if code == 0x01 then task_management_function.AbortTask
    else if code == 0x02 then task_management_function.AbortTaskSet
    else if code == 0x03 then task_management_function.ClearAca
    else if code == 0x04 then task_management_function.ClearTaskSet
    else if code == 0x05 then task_management_function.LogicalUnitReset
    else if code == 0x06 then task_management_function.TargetWarmReset
    else if code == 0x07 then task_management_function.TargetColdReset
    else if code == 0x08 then task_management_function.TaskReassign
    else task_management_function.Reserved

abbrev pub task_management_result_code : TaskManagementResult → ℕ
task_management_result_code task_management_result.FunctionComplete = 0x00
task_management_result_code task_management_result.TaskDoesNotExist = 0x01
task_management_result_code task_management_result.LunDoesNotExist = 0x02
task_management_result_code task_management_result.TaskStillAllegiant = 0x03
task_management_result_code task_management_result.TaskAllegianceReassignmentNotSupported = 0x04
task_management_result_code task_management_result.FunctionNotSupported = 0x05
task_management_result_code task_management_result.FunctionAuthorizationFailed = 0x06
task_management_result_code task_management_result.FunctionRejected = 0xFF
task_management_result_code task_management_result.Reserved = 0x07

abbrev pub task_management_result_of : ℕ → TaskManagementResult
task_management_result_of code =
    if code == 0x00 then task_management_result.FunctionComplete
    else if code == 0x01 then task_management_result.TaskDoesNotExist
    else if code == 0x02 then task_management_result.LunDoesNotExist
    else if code == 0x03 then task_management_result.TaskStillAllegiant
    else if code == 0x04 then task_management_result.TaskAllegianceReassignmentNotSupported
    else if code == 0x05 then task_management_result.FunctionNotSupported
    else if code == 0x06 then task_management_result.FunctionAuthorizationFailed
    else if code == 0xFF then task_management_result.FunctionRejected
    else task_management_result.Reserved

abbrev pub stage_code : Stage → ℕ
stage_code stage.SecurityNegotiation = 0x00
stage_code stage.LoginOperationalNegotiation = 0x01
stage_code stage.FullFeaturePhase = 0x03
stage_code stage.Reserved = 0x02

abbrev pub stage_of : ℕ → Stage
stage_of code =
    if code == 0x00 then stage.SecurityNegotiation
    else if code == 0x01 then stage.LoginOperationalNegotiation
    else if code == 0x03 then stage.FullFeaturePhase
    else stage.Reserved

abbrev pub logout_reason_code : LogoutReason → ℕ
logout_reason_code logout_reason.CloseTheSession = 0x00
logout_reason_code logout_reason.CloseTheConnection = 0x01
logout_reason_code logout_reason.RemoveTheConnectionForRecovery = 0x02
logout_reason_code logout_reason.Reserved = 0x03

abbrev pub logout_reason_of : ℕ → LogoutReason
logout_reason_of code =
    if code == 0x00 then logout_reason.CloseTheSession
    else if code == 0x01 then logout_reason.CloseTheConnection
    else if code == 0x02 then logout_reason.RemoveTheConnectionForRecovery
    else logout_reason.Reserved

abbrev pub logout_result_code : LogoutResult → ℕ
logout_result_code logout_result.Closed = 0x00
logout_result_code logout_result.CidNotFound = 0x01
logout_result_code logout_result.ConnectionRecoveryNotSupported = 0x02
logout_result_code logout_result.CleanupFailed = 0x03
logout_result_code logout_result.Reserved = 0x04

abbrev pub logout_result_of : ℕ → LogoutResult
logout_result_of code =
    if code == 0x00 then logout_result.Closed
    else if code == 0x01 then logout_result.CidNotFound
    else if code == 0x02 then logout_result.ConnectionRecoveryNotSupported
    else if code == 0x03 then logout_result.CleanupFailed
    else logout_result.Reserved

abbrev pub reject_reason_code : RejectReason → ℕ
reject_reason_code reject_reason.DataDigestError = 0x02
reject_reason_code reject_reason.SnackReject = 0x03
reject_reason_code reject_reason.ProtocolError = 0x04
reject_reason_code reject_reason.CommandNotSupported = 0x05
reject_reason_code reject_reason.TooManyImmediateCommands = 0x06
reject_reason_code reject_reason.TaskInProgress = 0x07
reject_reason_code reject_reason.InvalidDataAck = 0x08
reject_reason_code reject_reason.InvalidPduField = 0x09
reject_reason_code reject_reason.OutOfResources = 0x0A
reject_reason_code reject_reason.WaitingForLogout = 0x0C
reject_reason_code reject_reason.Reserved = 0x01

abbrev pub reject_reason_of : ℕ → RejectReason
reject_reason_of code =
    if code == 0x02 then reject_reason.DataDigestError
    else if code == 0x03 then reject_reason.SnackReject
    else if code == 0x04 then reject_reason.ProtocolError
    else if code == 0x05 then reject_reason.CommandNotSupported
    else if code == 0x06 then reject_reason.TooManyImmediateCommands
    else if code == 0x07 then reject_reason.TaskInProgress
    else if code == 0x08 then reject_reason.InvalidDataAck
    else if code == 0x09 then reject_reason.InvalidPduField
    else if code == 0x0A then reject_reason.OutOfResources
    else if code == 0x0C then reject_reason.WaitingForLogout
    else reject_reason.Reserved

abbrev pub async_event_code : AsyncEvent → ℕ
async_event_code async_event.ScsiEvent = 0x00
async_event_code async_event.LogoutRequested = 0x01
async_event_code async_event.ConnectionDropped = 0x02
async_event_code async_event.AllConnectionsDropped = 0x03
async_event_code async_event.NegotiationRequested = 0x04
async_event_code async_event.TasksTerminated = 0x05
async_event_code async_event.VendorSpecific = 0xFF
async_event_code async_event.Reserved = 0x06

abbrev pub async_event_of : ℕ → AsyncEvent
async_event_of code =
    if code == 0x00 then async_event.ScsiEvent
    else if code == 0x01 then async_event.LogoutRequested
    else if code == 0x02 then async_event.ConnectionDropped
    else if code == 0x03 then async_event.AllConnectionsDropped
    else if code == 0x04 then async_event.NegotiationRequested
    else if code == 0x05 then async_event.TasksTerminated
    else if code == 0xFF then async_event.VendorSpecific
    else async_event.Reserved

abbrev pub snack_type_code : SnackType → ℕ
snack_type_code snack_type.DataOrR2t = 0x00
snack_type_code snack_type.Status = 0x01
snack_type_code snack_type.DataAck = 0x02
snack_type_code snack_type.RData = 0x03
snack_type_code snack_type.Reserved = 0x04

abbrev pub snack_type_of : ℕ → SnackType
snack_type_of code =
    if code == 0x00 then snack_type.DataOrR2t
    else if code == 0x01 then snack_type.Status
    else if code == 0x02 then snack_type.DataAck
    else if code == 0x03 then snack_type.RData
    else snack_type.Reserved

abbrev pub login_status_code : LoginStatus → ℕ
login_status_code login_status.Success = 0x0000
login_status_code login_status.TargetMovedTemporarily = 0x0101
login_status_code login_status.TargetMovedPermanently = 0x0102
login_status_code login_status.InitiatorError = 0x0200
login_status_code login_status.AuthenticationFailure = 0x0201
login_status_code login_status.AuthorizationFailure = 0x0202
login_status_code login_status.NotFound = 0x0203
login_status_code login_status.TargetRemoved = 0x0204
login_status_code login_status.UnsupportedVersion = 0x0205
login_status_code login_status.TooManyConnections = 0x0206
login_status_code login_status.MissingParameter = 0x0207
login_status_code login_status.CannotIncludeInSession = 0x0208
login_status_code login_status.SessionTypeNotSupported = 0x0209
login_status_code login_status.SessionDoesNotExist = 0x020A
login_status_code login_status.InvalidDuringLogin = 0x020B
login_status_code login_status.TargetError = 0x0300
login_status_code login_status.ServiceUnavailable = 0x0301
login_status_code login_status.OutOfResources = 0x0302
login_status_code login_status.Reserved = 0xFFFF

abbrev pub login_status_of : ℕ → LoginStatus
login_status_of code =
    if code == 0x0000 then login_status.Success
    else if code == 0x0101 then login_status.TargetMovedTemporarily
    else if code == 0x0102 then login_status.TargetMovedPermanently
    else if code == 0x0200 then login_status.InitiatorError
    else if code == 0x0201 then login_status.AuthenticationFailure
    else if code == 0x0202 then login_status.AuthorizationFailure
    else if code == 0x0203 then login_status.NotFound
    else if code == 0x0204 then login_status.TargetRemoved
    else if code == 0x0205 then login_status.UnsupportedVersion
    else if code == 0x0206 then login_status.TooManyConnections
    else if code == 0x0207 then login_status.MissingParameter
    else if code == 0x0208 then login_status.CannotIncludeInSession
    else if code == 0x0209 then login_status.SessionTypeNotSupported
    else if code == 0x020A then login_status.SessionDoesNotExist
    else if code == 0x020B then login_status.InvalidDuringLogin
    else if code == 0x0300 then login_status.TargetError
    else if code == 0x0301 then login_status.ServiceUnavailable
    else if code == 0x0302 then login_status.OutOfResources
    else login_status.Reserved
