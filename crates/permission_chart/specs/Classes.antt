-- The classes of command, in the order of `Class`; those that only the hosts' profile has come last.
use Rattle.std.specs.Prelude.{◌≡◌, Bool, true, false, List, [], ◌∷◌, ◌++◌}
use Rattle.std.specs.List.{Contains}
use Rattle.scsi_cdb.specs.declared.classes.Class.{Class}
use Rattle.scsi_cdb.specs.declared.classes.Class.TheVariants.{TestUnitReady, RequestSense, Inquiry, ReportLuns, PersistentReserveIn, AllowRemoval, ReadBlockLimits, ReadPosition, ReadElementStatusCurdata, ModeSense, Read, Space, Locate, Rewind, ReadElementStatus, ModeSelect, PreventRemoval, Write, WriteFilemarks, Erase, LoadUnload, MoveMedium, InitializeElementStatus, Register, RegisterAndIgnoreExistingKey, Clear, Preempt, PreemptAndAbort, Release, Reserve, RegisterAndMove, SendDiagnostic, LogSelect, LogSense, ModeSelect10, ModeSense10, ReportSupportedOperationCodes, ReportSupportedTaskManagementFunctions, PositionToElement, ExchangeMedium}
use Rattle.scsi_cdb.specs.declared.profile.Profile.{Profile}
use Rattle.scsi_cdb.specs.declared.profile.Profile.TheVariants.{Spec, Hosts}

-- those that both profiles have
abbrev pub shared_classes : List Class
shared_classes = TestUnitReady ∷ RequestSense ∷ Inquiry ∷ ReportLuns ∷ PersistentReserveIn ∷ AllowRemoval ∷ ReadBlockLimits ∷ ReadPosition ∷ ReadElementStatusCurdata ∷ ModeSense ∷ Read ∷ Space ∷ Locate ∷ Rewind ∷ ReadElementStatus ∷ ModeSelect ∷ PreventRemoval ∷ Write ∷ WriteFilemarks ∷ Erase ∷ LoadUnload ∷ MoveMedium ∷ InitializeElementStatus ∷ Register ∷ RegisterAndIgnoreExistingKey ∷ Clear ∷ Preempt ∷ PreemptAndAbort ∷ Release ∷ Reserve ∷ RegisterAndMove ∷ []

-- and those that only the hosts' profile has
abbrev pub host_classes : List Class
host_classes = SendDiagnostic ∷ LogSelect ∷ LogSense ∷ ModeSelect10 ∷ ModeSense10 ∷ ReportSupportedOperationCodes ∷ ReportSupportedTaskManagementFunctions ∷ PositionToElement ∷ ExchangeMedium ∷ []

-- the classes of the commands of a profile
abbrev pub every_class : Profile → List Class
every_class Spec = shared_classes
every_class Hosts = shared_classes ++ host_classes

-- whether only the hosts' profile has a class
abbrev pub is_host : Class → Bool
is_host SendDiagnostic = true
is_host LogSelect = true
is_host LogSense = true
is_host ModeSelect10 = true
is_host ModeSense10 = true
is_host ReportSupportedOperationCodes = true
is_host ReportSupportedTaskManagementFunctions = true
is_host PositionToElement = true
is_host ExchangeMedium = true
is_host class = false

-- none is missing: the hosts' profile has each class, and the default one each but those that only the hosts' has, of which it has none
pub record HasEachClass : Type 0 where
  pub hosts : (c : Class) → Contains (every_class Hosts) c
  pub spec : (c : Class) → is_host c ≡ false → Contains (every_class Spec) c
  pub spec_alone : (c : Class) → is_host c ≡ true → ¬ Contains (every_class Spec) c
