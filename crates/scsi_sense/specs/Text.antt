-- The words for statuses, sense keys and conditions: those of the standards' own tables (SAM-5, "Status codes"; SPC-4,
-- "Sense key and additional sense code definitions").
use Rattle.std.specs.Prelude.{ℕ, List, codes}
use Rattle.scsi_sense.specs.declared.condition.Condition.{Condition}
use Rattle.scsi_sense.specs.declared.condition.Condition.TheVariants.{NoAdditionalSenseInformation, FilemarkDetected, EarlyWarning, BeginningOfMediumDetected, InitializingCommandRequired, MediumNotPresent, InternalTargetFailure, ParameterListLengthError, InvalidCommandOperationCode, InvalidElementAddress, InvalidFieldInCdb, LogicalUnitNotSupported, InvalidFieldInParameterList, InvalidReleaseOfPersistentReservation, SavingParametersNotSupported, MediumDestinationElementFull, MediumSourceElementEmpty, MediumRemovalPrevented, InsufficientRegistrationResources, NotReadyToReadyChange, PowerOnOrResetOccurred, BusDeviceResetFunctionOccurred, NexusLossOccurred, ModeParametersChanged, LogParametersChanged, ReservationsPreempted, ReservationsReleased, RegistrationsPreempted, WriteProtected, EndOfDataDetected, EndOfMediumDetected}
use Rattle.scsi_sense.specs.declared.sense_key.SenseKey.{SenseKey}
use Rattle.scsi_sense.specs.declared.sense_key.SenseKey.TheVariants.{NoSense, NotReady, HardwareError, IllegalRequest, UnitAttention, DataProtect, BlankCheck, VolumeOverflow}
use Rattle.scsi_sense.specs.declared.status.Status.{Status}
use Rattle.scsi_sense.specs.declared.status.Status.TheVariants.{Good, CheckCondition, Busy, ReservationConflict}

abbrev pub status_name : Status → List ℕ
status_name Good = codes "GOOD"
status_name CheckCondition = codes "CHECK CONDITION"
status_name Busy = codes "BUSY"
status_name ReservationConflict = codes "RESERVATION CONFLICT"

abbrev pub key_name : SenseKey → List ℕ
key_name NoSense = codes "NO SENSE"
key_name NotReady = codes "NOT READY"
key_name HardwareError = codes "HARDWARE ERROR"
key_name IllegalRequest = codes "ILLEGAL REQUEST"
key_name UnitAttention = codes "UNIT ATTENTION"
key_name DataProtect = codes "DATA PROTECT"
key_name BlankCheck = codes "BLANK CHECK"
key_name VolumeOverflow = codes "VOLUME OVERFLOW"

abbrev pub condition_name : Condition → List ℕ
condition_name NoAdditionalSenseInformation = codes "NO ADDITIONAL SENSE INFORMATION"
condition_name FilemarkDetected = codes "FILEMARK DETECTED"
condition_name EarlyWarning = codes "END-OF-PARTITION/MEDIUM DETECTED"
condition_name BeginningOfMediumDetected = codes "BEGINNING-OF-PARTITION/MEDIUM DETECTED"
condition_name InitializingCommandRequired = codes "LOGICAL UNIT NOT READY, INITIALIZING COMMAND REQUIRED"
condition_name MediumNotPresent = codes "MEDIUM NOT PRESENT"
condition_name InternalTargetFailure = codes "INTERNAL TARGET FAILURE"
condition_name ParameterListLengthError = codes "PARAMETER LIST LENGTH ERROR"
condition_name InvalidCommandOperationCode = codes "INVALID COMMAND OPERATION CODE"
condition_name InvalidElementAddress = codes "INVALID ELEMENT ADDRESS"
condition_name InvalidFieldInCdb = codes "INVALID FIELD IN CDB"
condition_name LogicalUnitNotSupported = codes "LOGICAL UNIT NOT SUPPORTED"
condition_name InvalidFieldInParameterList = codes "INVALID FIELD IN PARAMETER LIST"
condition_name InvalidReleaseOfPersistentReservation = codes "INVALID RELEASE OF PERSISTENT RESERVATION"
condition_name SavingParametersNotSupported = codes "SAVING PARAMETERS NOT SUPPORTED"
condition_name MediumDestinationElementFull = codes "MEDIUM DESTINATION ELEMENT FULL"
condition_name MediumSourceElementEmpty = codes "MEDIUM SOURCE ELEMENT EMPTY"
condition_name MediumRemovalPrevented = codes "MEDIUM REMOVAL PREVENTED"
condition_name InsufficientRegistrationResources = codes "INSUFFICIENT REGISTRATION RESOURCES"
condition_name NotReadyToReadyChange = codes "NOT READY TO READY CHANGE, MEDIUM MAY HAVE CHANGED"
condition_name PowerOnOrResetOccurred = codes "POWER ON, RESET, OR BUS DEVICE RESET OCCURRED"
condition_name BusDeviceResetFunctionOccurred = codes "BUS DEVICE RESET FUNCTION OCCURRED"
condition_name NexusLossOccurred = codes "I_T NEXUS LOSS OCCURRED"
condition_name ModeParametersChanged = codes "MODE PARAMETERS CHANGED"
condition_name LogParametersChanged = codes "LOG PARAMETERS CHANGED"
condition_name ReservationsPreempted = codes "RESERVATIONS PREEMPTED"
condition_name ReservationsReleased = codes "RESERVATIONS RELEASED"
condition_name RegistrationsPreempted = codes "REGISTRATIONS PREEMPTED"
condition_name WriteProtected = codes "WRITE PROTECTED"
condition_name EndOfDataDetected = codes "END-OF-DATA DETECTED"
condition_name EndOfMediumDetected = codes "END-OF-PARTITION/MEDIUM DETECTED"
