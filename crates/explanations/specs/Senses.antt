-- Sense data in words (SPC-4, "Fixed format sense data"; SSC-4, "Sense data").
use Rattle.std.specs.Prelude.{ℕ, ◌-◌, ◌^◌, ◌==◌, ◌&&◌, nat_lt, Bool, List, [], ◌∷◌, ◌++◌, map, codes, Option, Some, None, if◌then◌else◌}
use Rattle.std.specs.Char.{to_ascii_lowercase}
use Rattle.std.specs.List.{find}
use Rattle.scsi_sense.specs.Conditions.{sense_for}
use Rattle.scsi_sense.specs.SenseKeys.{key_code}
use Rattle.scsi_sense.specs.Text.{condition_name, key_name}
use Rattle.scsi_sense.specs.declared.condition.Condition.{Condition}
use Rattle.scsi_sense.specs.declared.condition.Condition.TheVariants.{NoAdditionalSenseInformation, FilemarkDetected, EarlyWarning, BeginningOfMediumDetected, InitializingCommandRequired, MediumNotPresent, InternalTargetFailure, ParameterListLengthError, InvalidCommandOperationCode, InvalidElementAddress, InvalidFieldInCdb, LogicalUnitNotSupported, InvalidFieldInParameterList, InvalidReleaseOfPersistentReservation, SavingParametersNotSupported, MediumDestinationElementFull, MediumSourceElementEmpty, MediumRemovalPrevented, InsufficientRegistrationResources, NotReadyToReadyChange, PowerOnOrResetOccurred, BusDeviceResetFunctionOccurred, NexusLossOccurred, ModeParametersChanged, LogParametersChanged, ReservationsPreempted, ReservationsReleased, RegistrationsPreempted, WriteProtected, EndOfDataDetected, EndOfMediumDetected}
use Rattle.scsi_sense.specs.declared.sense.Sense.{Sense}
use Rattle.scsi_sense.specs.declared.sense_key.SenseKey.{SenseKey}
use Rattle.scsi_sense.specs.declared.sense_key.SenseKey.TheVariants.{NoSense, NotReady, HardwareError, IllegalRequest, UnitAttention, DataProtect, BlankCheck, VolumeOverflow}
use Rattle.explanations.specs.Words.{code_text, count_text}

abbrev pub every_key : List SenseKey
every_key = NoSense ∷ NotReady ∷ HardwareError ∷ IllegalRequest ∷ UnitAttention ∷ DataProtect ∷ BlankCheck ∷ VolumeOverflow ∷ []

abbrev pub every_condition : List Condition
every_condition = NoAdditionalSenseInformation ∷ FilemarkDetected ∷ EarlyWarning ∷ BeginningOfMediumDetected ∷ InitializingCommandRequired ∷ MediumNotPresent ∷ InternalTargetFailure ∷ ParameterListLengthError ∷ InvalidCommandOperationCode ∷ InvalidElementAddress ∷ InvalidFieldInCdb ∷ LogicalUnitNotSupported ∷ InvalidFieldInParameterList ∷ InvalidReleaseOfPersistentReservation ∷ SavingParametersNotSupported ∷ MediumDestinationElementFull ∷ MediumSourceElementEmpty ∷ MediumRemovalPrevented ∷ InsufficientRegistrationResources ∷ NotReadyToReadyChange ∷ PowerOnOrResetOccurred ∷ BusDeviceResetFunctionOccurred ∷ NexusLossOccurred ∷ ModeParametersChanged ∷ LogParametersChanged ∷ ReservationsPreempted ∷ ReservationsReleased ∷ RegistrationsPreempted ∷ WriteProtected ∷ EndOfDataDetected ∷ EndOfMediumDetected ∷ []

-- the sense key with a code, and the condition with a key and codes; none where there is none
unfoldable pub key_with : ℕ → Option SenseKey
key_with code = find (λ k. code == key_code k) every_key

unfoldable pub condition_with : (key asc ascq : ℕ) → Option Condition
condition_with key asc ascq =
    find (λ c. key == (sense_for c).key && (asc == (sense_for c).asc && ascq == (sense_for c).ascq)) every_condition

-- the key's name, or its code
abbrev pub key_text : ℕ → Option SenseKey → List ℕ
key_text code (Some key) = key_name key
key_text code None = codes "SENSE KEY " ++ code_text code

-- the condition's name in small letters, or the additional sense code and its qualifier
abbrev pub condition_text : (asc ascq : ℕ) → Option Condition → List ℕ
condition_text asc ascq (Some condition) = map to_ascii_lowercase (condition_name condition)
condition_text asc ascq None = code_text asc ++ codes "/" ++ code_text ascq

-- the words of a mark that is set
unfoldable pub mark_text : Bool → List ℕ → List ℕ
mark_text is_set words = if is_set then words else []

-- FILEMARK, EOM and ILI
abbrev pub marks_text : Sense → List ℕ
marks_text s =
    mark_text s.filemark (codes ", at a filemark") ++ mark_text s.eom (codes ", at an end of the medium")
    ++ mark_text s.ili (codes ", incorrect length")

-- INFORMATION: what was requested less what there was, as two's complement
abbrev pub residue_text : ℕ → List ℕ
residue_text n = if nat_lt n (2 ^ 31) then count_text n (codes " fewer than requested") else count_text (2 ^ 32 - n) (codes " more than requested")

-- the same, where it is valid
abbrev pub information_text : Sense → List ℕ
information_text s = if s.valid then residue_text s.information else []

unfoldable pub sense_text : Sense → List ℕ
sense_text s =
    codes ", " ++ key_text s.key (key_with s.key) ++ codes ": " ++ condition_text s.asc s.ascq (condition_with s.key s.asc s.ascq)
    ++ marks_text s ++ information_text s

abbrev pub sense_text_in : Option Sense → List ℕ
sense_text_in None = []
sense_text_in (Some sense) = sense_text sense
