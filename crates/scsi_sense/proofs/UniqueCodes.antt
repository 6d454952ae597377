-- No two conditions have the same codes, and no two sense keys the same code: a search by the codes finds each.
use Rattle.std.proofs.Common.{◌≡◌, ℕ, List, [], ◌∷◌, Option, None, Some, ◌&&◌, eqb, refl, ap, ◌∙◌, sym}
use Rattle.std.specs.List.{find}
use Rattle.scsi_sense.specs.Conditions.{sense_for, HasCodesOf, IsConditionOf}
use Rattle.scsi_sense.specs.SenseKeys.{key_code, IsKeyOf}
use Rattle.scsi_sense.specs.declared.condition.Condition.{Condition}
use Rattle.scsi_sense.specs.declared.condition.Condition.TheVariants.{NoAdditionalSenseInformation, FilemarkDetected, EarlyWarning, BeginningOfMediumDetected, InitializingCommandRequired, MediumNotPresent, InternalTargetFailure, ParameterListLengthError, InvalidCommandOperationCode, InvalidElementAddress, InvalidFieldInCdb, LogicalUnitNotSupported, InvalidFieldInParameterList, InvalidReleaseOfPersistentReservation, SavingParametersNotSupported, MediumDestinationElementFull, MediumSourceElementEmpty, MediumRemovalPrevented, InsufficientRegistrationResources, NotReadyToReadyChange, PowerOnOrResetOccurred, BusDeviceResetFunctionOccurred, NexusLossOccurred, ModeParametersChanged, LogParametersChanged, ReservationsPreempted, ReservationsReleased, RegistrationsPreempted, WriteProtected, EndOfDataDetected, EndOfMediumDetected}
use Rattle.scsi_sense.specs.declared.sense.Sense.{Sense}
use Rattle.scsi_sense.specs.declared.sense_key.SenseKey.{SenseKey}
use Rattle.scsi_sense.specs.declared.sense_key.SenseKey.TheVariants.{NoSense, NotReady, HardwareError, IllegalRequest, UnitAttention, DataProtect, BlankCheck, VolumeOverflow}

abbrev conditions : List Condition
conditions = NoAdditionalSenseInformation ∷ FilemarkDetected ∷ EarlyWarning ∷ BeginningOfMediumDetected ∷ InitializingCommandRequired ∷ MediumNotPresent ∷ InternalTargetFailure ∷ ParameterListLengthError ∷ InvalidCommandOperationCode ∷ InvalidElementAddress ∷ InvalidFieldInCdb ∷ LogicalUnitNotSupported ∷ InvalidFieldInParameterList ∷ InvalidReleaseOfPersistentReservation ∷ SavingParametersNotSupported ∷ MediumDestinationElementFull ∷ MediumSourceElementEmpty ∷ MediumRemovalPrevented ∷ InsufficientRegistrationResources ∷ NotReadyToReadyChange ∷ PowerOnOrResetOccurred ∷ BusDeviceResetFunctionOccurred ∷ NexusLossOccurred ∷ ModeParametersChanged ∷ LogParametersChanged ∷ ReservationsPreempted ∷ ReservationsReleased ∷ RegistrationsPreempted ∷ WriteProtected ∷ EndOfDataDetected ∷ EndOfMediumDetected ∷ []

-- the first condition with these codes
abbrev with_codes : (key asc ascq : ℕ) → Option Condition
with_codes key asc ascq = find (λ c. eqb key (sense_for c).key && (eqb asc (sense_for c).asc && eqb ascq (sense_for c).ascq)) conditions

with_codes-sense_for : (c : Condition) → with_codes (sense_for c).key (sense_for c).asc (sense_for c).ascq ≡ Some c
with_codes-sense_for NoAdditionalSenseInformation = refl
with_codes-sense_for FilemarkDetected = refl
with_codes-sense_for EarlyWarning = refl
with_codes-sense_for BeginningOfMediumDetected = refl
with_codes-sense_for InitializingCommandRequired = refl
with_codes-sense_for MediumNotPresent = refl
with_codes-sense_for InternalTargetFailure = refl
with_codes-sense_for ParameterListLengthError = refl
with_codes-sense_for InvalidCommandOperationCode = refl
with_codes-sense_for InvalidElementAddress = refl
with_codes-sense_for InvalidFieldInCdb = refl
with_codes-sense_for LogicalUnitNotSupported = refl
with_codes-sense_for InvalidFieldInParameterList = refl
with_codes-sense_for InvalidReleaseOfPersistentReservation = refl
with_codes-sense_for SavingParametersNotSupported = refl
with_codes-sense_for MediumDestinationElementFull = refl
with_codes-sense_for MediumSourceElementEmpty = refl
with_codes-sense_for MediumRemovalPrevented = refl
with_codes-sense_for InsufficientRegistrationResources = refl
with_codes-sense_for NotReadyToReadyChange = refl
with_codes-sense_for PowerOnOrResetOccurred = refl
with_codes-sense_for BusDeviceResetFunctionOccurred = refl
with_codes-sense_for NexusLossOccurred = refl
with_codes-sense_for ModeParametersChanged = refl
with_codes-sense_for LogParametersChanged = refl
with_codes-sense_for ReservationsPreempted = refl
with_codes-sense_for ReservationsReleased = refl
with_codes-sense_for RegistrationsPreempted = refl
with_codes-sense_for WriteProtected = refl
with_codes-sense_for EndOfDataDetected = refl
with_codes-sense_for EndOfMediumDetected = refl

-- sense data with a condition's codes is found as that condition
with_codes-has : (s : Sense) (c : Condition) → HasCodesOf s c → with_codes s.key s.asc s.ascq ≡ Some c
with_codes-has s c has = rw (has.0, has.1, has.2) (with_codes-sense_for c)

-- what a condition's sense data says is that condition
pub conditions_read_back : (c : Condition) (found : Option Condition) → IsConditionOf (sense_for c) found → found ≡ Some c
conditions_read_back c None none = absurd (none c (refl, refl, refl))
conditions_read_back c (Some other) has = sym (with_codes-has (sense_for c) other has) ∙ with_codes-sense_for c

-- sense data says one condition at most
pub one_condition : (s : Sense) (a b : Option Condition) → IsConditionOf s a → IsConditionOf s b → a ≡ b
one_condition s None None p q = refl
one_condition s None (Some b) p q = absurd (p b q)
one_condition s (Some a) None p q = absurd (q a p)
one_condition s (Some a) (Some b) p q = sym (with_codes-has s a p) ∙ with_codes-has s b q

abbrev keys : List SenseKey
keys = NoSense ∷ NotReady ∷ HardwareError ∷ IllegalRequest ∷ UnitAttention ∷ DataProtect ∷ BlankCheck ∷ VolumeOverflow ∷ []

abbrev with_code : ℕ → Option SenseKey
with_code code = find (λ k. eqb code (key_code k)) keys

with_code-key_code : (k : SenseKey) → with_code (key_code k) ≡ Some k
with_code-key_code NoSense = refl
with_code-key_code NotReady = refl
with_code-key_code HardwareError = refl
with_code-key_code IllegalRequest = refl
with_code-key_code UnitAttention = refl
with_code-key_code DataProtect = refl
with_code-key_code BlankCheck = refl
with_code-key_code VolumeOverflow = refl

with_code-has : (code : ℕ) (k : SenseKey) → key_code k ≡ code → with_code code ≡ Some k
with_code-has code k has = ap with_code (sym has) ∙ with_code-key_code k

-- a code has one key at most
pub one_key : (code : ℕ) (a b : Option SenseKey) → IsKeyOf code a → IsKeyOf code b → a ≡ b
one_key code None None p q = refl
one_key code None (Some b) p q = absurd (p b q)
one_key code (Some a) None p q = absurd (q a p)
one_key code (Some a) (Some b) p q = sym (with_code-has code a p) ∙ with_code-has code b q
