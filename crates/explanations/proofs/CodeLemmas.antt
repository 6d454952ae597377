-- What is found by a code is the sense key, or the condition, that has it.
use Rattle.std.proofs.Common.{◌≡◌, ℕ, List, [], ◌∷◌, Option, None, Some, Bool, true, false, ◌&&◌, ◌==◌, refl, ap, ◌∙◌, sym}
use Rattle.std.proofs.lemmas.Bool.{and_parts, eqb-true}
use Rattle.std.specs.List.{find}
use Rattle.scsi_sense.specs.Conditions.{sense_for, HasCodesOf, IsConditionOf}
use Rattle.scsi_sense.specs.SenseKeys.{key_code, IsKeyOf}
use Rattle.scsi_sense.specs.declared.condition.Condition.{Condition}
use Rattle.scsi_sense.specs.declared.condition.Condition.TheVariants.{NoAdditionalSenseInformation, FilemarkDetected, EarlyWarning, BeginningOfMediumDetected, InitializingCommandRequired, MediumNotPresent, InternalTargetFailure, ParameterListLengthError, InvalidCommandOperationCode, InvalidElementAddress, InvalidFieldInCdb, LogicalUnitNotSupported, InvalidFieldInParameterList, InvalidReleaseOfPersistentReservation, SavingParametersNotSupported, MediumDestinationElementFull, MediumSourceElementEmpty, MediumRemovalPrevented, InsufficientRegistrationResources, NotReadyToReadyChange, PowerOnOrResetOccurred, BusDeviceResetFunctionOccurred, NexusLossOccurred, ModeParametersChanged, LogParametersChanged, ReservationsPreempted, ReservationsReleased, RegistrationsPreempted, WriteProtected, EndOfDataDetected, EndOfMediumDetected}
use Rattle.scsi_sense.specs.declared.sense.Sense.{Sense}
use Rattle.scsi_sense.specs.declared.sense_key.SenseKey.{SenseKey}
use Rattle.scsi_sense.specs.declared.sense_key.SenseKey.TheVariants.{NoSense, NotReady, HardwareError, IllegalRequest, UnitAttention, DataProtect, BlankCheck, VolumeOverflow}
use Rattle.explanations.specs.Senses.{condition_with, every_condition, every_key, key_with}

false_since : (b : Bool) → (b ≡ true → ⊥) → b ≡ false
false_since true h = absurd (h refl)
false_since false h = refl

-- nothing is found where nothing passes the test
find_none : {X : Type 0} (p : X → Bool) (xs : List X) → ((x : X) → p x ≡ false) → find p xs ≡ None
find_none p [] h = refl
find_none p (x ∷ xs) h = rw (h x) (find_none p xs h)

key_with-key_code : (k : SenseKey) → key_with (key_code k) ≡ Some k
unfolding key_with
key_with-key_code NoSense = refl
key_with-key_code NotReady = refl
key_with-key_code HardwareError = refl
key_with-key_code IllegalRequest = refl
key_with-key_code UnitAttention = refl
key_with-key_code DataProtect = refl
key_with-key_code BlankCheck = refl
key_with-key_code VolumeOverflow = refl

pub key_is : (code : ℕ) (found : Option SenseKey) → IsKeyOf code found → found ≡ key_with code
unfolding key_with
key_is code None none = sym (find_none (λ k. code == key_code k) every_key (λ k. false_since (code == key_code k) (λ same. none k (sym (eqb-true code (key_code k) same)))))
key_is code (Some k) has = sym (ap key_with (sym has) ∙ key_with-key_code k)

condition_with-sense_for : (c : Condition) → condition_with (sense_for c).key (sense_for c).asc (sense_for c).ascq ≡ Some c
unfolding condition_with
condition_with-sense_for NoAdditionalSenseInformation = refl
condition_with-sense_for FilemarkDetected = refl
condition_with-sense_for EarlyWarning = refl
condition_with-sense_for BeginningOfMediumDetected = refl
condition_with-sense_for InitializingCommandRequired = refl
condition_with-sense_for MediumNotPresent = refl
condition_with-sense_for InternalTargetFailure = refl
condition_with-sense_for ParameterListLengthError = refl
condition_with-sense_for InvalidCommandOperationCode = refl
condition_with-sense_for InvalidElementAddress = refl
condition_with-sense_for InvalidFieldInCdb = refl
condition_with-sense_for LogicalUnitNotSupported = refl
condition_with-sense_for InvalidFieldInParameterList = refl
condition_with-sense_for InvalidReleaseOfPersistentReservation = refl
condition_with-sense_for SavingParametersNotSupported = refl
condition_with-sense_for MediumDestinationElementFull = refl
condition_with-sense_for MediumSourceElementEmpty = refl
condition_with-sense_for MediumRemovalPrevented = refl
condition_with-sense_for InsufficientRegistrationResources = refl
condition_with-sense_for NotReadyToReadyChange = refl
condition_with-sense_for PowerOnOrResetOccurred = refl
condition_with-sense_for BusDeviceResetFunctionOccurred = refl
condition_with-sense_for NexusLossOccurred = refl
condition_with-sense_for ModeParametersChanged = refl
condition_with-sense_for LogParametersChanged = refl
condition_with-sense_for ReservationsPreempted = refl
condition_with-sense_for ReservationsReleased = refl
condition_with-sense_for RegistrationsPreempted = refl
condition_with-sense_for WriteProtected = refl
condition_with-sense_for EndOfDataDetected = refl
condition_with-sense_for EndOfMediumDetected = refl

-- sense data that passes the test for a condition has the codes of this
has_codes : (s : Sense) (c : Condition) → (s.key == (sense_for c).key && (s.asc == (sense_for c).asc && s.ascq == (sense_for c).ascq)) ≡ true → HasCodesOf s c
has_codes s c h =
    let of_key = and_parts (s.key == (sense_for c).key) (s.asc == (sense_for c).asc && s.ascq == (sense_for c).ascq) h in
    let of_codes = and_parts (s.asc == (sense_for c).asc) (s.ascq == (sense_for c).ascq) of_key.1 in
    (eqb-true s.key (sense_for c).key of_key.0, eqb-true s.asc (sense_for c).asc of_codes.0, eqb-true s.ascq (sense_for c).ascq of_codes.1)

pub condition_is : (s : Sense) (found : Option Condition) → IsConditionOf s found → found ≡ condition_with s.key s.asc s.ascq
unfolding condition_with
condition_is s None none =
    sym (find_none (λ c. s.key == (sense_for c).key && (s.asc == (sense_for c).asc && s.ascq == (sense_for c).ascq)) every_condition
    (λ c. false_since (s.key == (sense_for c).key && (s.asc == (sense_for c).asc && s.ascq == (sense_for c).ascq)) (λ same. none c (has_codes s c same))))
condition_is s (Some c) has = sym (rw (has.0, has.1, has.2) (condition_with-sense_for c))
