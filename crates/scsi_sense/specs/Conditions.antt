-- The conditions that sense data reports (SPC-4, "Sense key and additional sense code definitions").
use Rattle.std.specs.Prelude.{◌≡◌, ℕ, ◌==◌, ◌&&◌, Bool, false, Option, Some, MatchOption}
use Rattle.scsi_sense.specs.declared.condition.Condition.{Condition}
use Rattle.scsi_sense.specs.declared.condition.Condition.TheVariants.{NoAdditionalSenseInformation, FilemarkDetected, EarlyWarning, BeginningOfMediumDetected, InitializingCommandRequired, MediumNotPresent, InternalTargetFailure, ParameterListLengthError, InvalidCommandOperationCode, InvalidElementAddress, InvalidFieldInCdb, LogicalUnitNotSupported, InvalidFieldInParameterList, InvalidReleaseOfPersistentReservation, SavingParametersNotSupported, MediumDestinationElementFull, MediumSourceElementEmpty, MediumRemovalPrevented, InsufficientRegistrationResources, NotReadyToReadyChange, PowerOnOrResetOccurred, BusDeviceResetFunctionOccurred, NexusLossOccurred, ModeParametersChanged, LogParametersChanged, ReservationsPreempted, ReservationsReleased, RegistrationsPreempted, WriteProtected, EndOfDataDetected, EndOfMediumDetected}
use Rattle.scsi_sense.specs.declared.sense.Sense.{Sense}

-- sense data with a key, an additional sense code and its qualifier, and nothing else
abbrev pub reports : ℕ → ℕ → ℕ → Sense
reports key asc ascq = record {
  valid = false;
  filemark = false;
  eom = false;
  ili = false;
  key = key;
  information = 0;
  asc = asc;
  ascq = ascq;
}

-- the sense keys
abbrev pub no_sense : ℕ
no_sense = 0x0

abbrev pub not_ready : ℕ
not_ready = 0x2

abbrev pub hardware_error : ℕ
hardware_error = 0x4

abbrev pub illegal_request : ℕ
illegal_request = 0x5

abbrev pub unit_attention : ℕ
unit_attention = 0x6

abbrev pub data_protect : ℕ
data_protect = 0x7

abbrev pub blank_check : ℕ
blank_check = 0x8

abbrev pub volume_overflow : ℕ
volume_overflow = 0xD

-- the table of conditions
abbrev pub sense_for : Condition → Sense
sense_for NoAdditionalSenseInformation = reports no_sense 0x00 0x00
sense_for FilemarkDetected = reports no_sense 0x00 0x01
sense_for EarlyWarning = reports no_sense 0x00 0x02
sense_for BeginningOfMediumDetected = reports no_sense 0x00 0x04
sense_for InitializingCommandRequired = reports not_ready 0x04 0x02
sense_for MediumNotPresent = reports not_ready 0x3A 0x00
sense_for InternalTargetFailure = reports hardware_error 0x44 0x00
sense_for ParameterListLengthError = reports illegal_request 0x1A 0x00
sense_for InvalidCommandOperationCode = reports illegal_request 0x20 0x00
sense_for InvalidElementAddress = reports illegal_request 0x21 0x01
sense_for InvalidFieldInCdb = reports illegal_request 0x24 0x00
sense_for LogicalUnitNotSupported = reports illegal_request 0x25 0x00
sense_for InvalidFieldInParameterList = reports illegal_request 0x26 0x00
sense_for InvalidReleaseOfPersistentReservation = reports illegal_request 0x26 0x04
sense_for SavingParametersNotSupported = reports illegal_request 0x39 0x00
sense_for MediumDestinationElementFull = reports illegal_request 0x3B 0x0D
sense_for MediumSourceElementEmpty = reports illegal_request 0x3B 0x0E
sense_for MediumRemovalPrevented = reports illegal_request 0x53 0x02
sense_for InsufficientRegistrationResources = reports illegal_request 0x55 0x04
sense_for NotReadyToReadyChange = reports unit_attention 0x28 0x00
sense_for PowerOnOrResetOccurred = reports unit_attention 0x29 0x00
sense_for BusDeviceResetFunctionOccurred = reports unit_attention 0x29 0x03
sense_for NexusLossOccurred = reports unit_attention 0x29 0x07
sense_for ModeParametersChanged = reports unit_attention 0x2A 0x01
sense_for LogParametersChanged = reports unit_attention 0x2A 0x02
sense_for ReservationsPreempted = reports unit_attention 0x2A 0x03
sense_for ReservationsReleased = reports unit_attention 0x2A 0x04
sense_for RegistrationsPreempted = reports unit_attention 0x2A 0x05
sense_for WriteProtected = reports data_protect 0x27 0x00
sense_for EndOfDataDetected = reports blank_check 0x00 0x05
sense_for EndOfMediumDetected = reports volume_overflow 0x00 0x02

-- whether the sense data has the sense key, the additional sense code and the qualifier of the condition
abbrev pub has_codes_of : Sense → Condition → Bool
has_codes_of s c = (s.key == (sense_for c).key) && (s.asc == (sense_for c).asc) && (s.ascq == (sense_for c).ascq)

-- the same as a fact
abbrev pub HasCodesOf : Sense → Condition → Type 0
HasCodesOf s c = (s.key ≡ (sense_for c).key) × (s.asc ≡ (sense_for c).asc) × (s.ascq ≡ (sense_for c).ascq)

-- the condition whose codes the sense data has, or none where it has those of no condition
abbrev pub IsConditionOf : Sense → Option Condition → Type 0
IsConditionOf s found = MatchOption found ((c : Condition) → ¬ HasCodesOf s c) (HasCodesOf s)

-- sense data has the codes of one condition at most
abbrev pub OneConditionAtMost : Type 0
OneConditionAtMost = (s : Sense) (a b : Option Condition) → IsConditionOf s a → IsConditionOf s b → a ≡ b

-- the sense data of a condition has the codes of this one
abbrev pub ConditionsReadBack : Type 0
ConditionsReadBack = (c : Condition) (found : Option Condition) → IsConditionOf (sense_for c) found → found ≡ Some c
