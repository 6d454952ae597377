-- The names that cells and audit lines are written with (profile).
use Rattle.std.specs.Prelude.{ℕ, List, ◌++◌, codes}
use Rattle.permit_tables.specs.declared.res_type.ResType.{ResType}
use Rattle.permit_tables.specs.declared.res_type.ResType.TheVariants.{None, We, Ea, Wero, Earo, Wear, Eaar}
use Rattle.permit_tables.specs.declared.role.Role.{Role}
use Rattle.permit_tables.specs.declared.role.Role.TheVariants.{Holder, Registered, Other}
use Rattle.permit_tables.specs.declared.cell.Cell.{Cell}
use Rattle.scsi_cdb.specs.declared.classes.Class.{Class}
use Rattle.scsi_cdb.specs.declared.classes.Class.TheVariants.{TestUnitReady, RequestSense, Inquiry, ReportLuns, PersistentReserveIn, AllowRemoval, ReadBlockLimits, ReadPosition, ReadElementStatusCurdata, ModeSense, Read, Space, Locate, Rewind, ReadElementStatus, ModeSelect, PreventRemoval, Write, WriteFilemarks, Erase, LoadUnload, MoveMedium, InitializeElementStatus, Register, RegisterAndIgnoreExistingKey, Clear, Preempt, PreemptAndAbort, Release, Reserve, RegisterAndMove, SendDiagnostic, LogSelect, LogSense, ModeSelect10, ModeSense10, ReportSupportedOperationCodes, ReportSupportedTaskManagementFunctions, PositionToElement, ExchangeMedium}

abbrev pub class_name : Class → List ℕ
class_name TestUnitReady = codes "TEST-UNIT-READY"
class_name RequestSense = codes "REQUEST-SENSE"
class_name Inquiry = codes "INQUIRY"
class_name ReportLuns = codes "REPORT-LUNS"
class_name PersistentReserveIn = codes "PR-IN"
class_name AllowRemoval = codes "ALLOW-REMOVAL"
class_name ReadBlockLimits = codes "READ-BLOCK-LIMITS"
class_name ReadPosition = codes "READ-POSITION"
class_name ReadElementStatusCurdata = codes "READ-ELEMENT-STATUS-CURDATA"
class_name ModeSense = codes "MODE-SENSE(6)"
class_name Read = codes "READ(6)"
class_name Space = codes "SPACE(6)"
class_name Locate = codes "LOCATE(10)"
class_name Rewind = codes "REWIND"
class_name ReadElementStatus = codes "READ-ELEMENT-STATUS"
class_name ModeSelect = codes "MODE-SELECT(6)"
class_name PreventRemoval = codes "PREVENT-REMOVAL"
class_name Write = codes "WRITE(6)"
class_name WriteFilemarks = codes "WRITE-FILEMARKS(6)"
class_name Erase = codes "ERASE(6)"
class_name LoadUnload = codes "LOAD-UNLOAD"
class_name MoveMedium = codes "MOVE-MEDIUM"
class_name InitializeElementStatus = codes "INIT-ELEMENT-STATUS"
class_name Register = codes "REGISTER"
class_name RegisterAndIgnoreExistingKey = codes "REGISTER-IGNORE"
class_name Clear = codes "CLEAR"
class_name Preempt = codes "PREEMPT"
class_name PreemptAndAbort = codes "PREEMPT-ABORT"
class_name Release = codes "RELEASE"
class_name Reserve = codes "RESERVE"
class_name RegisterAndMove = codes "REGISTER-MOVE"
class_name SendDiagnostic = codes "SEND-DIAGNOSTIC"
class_name LogSelect = codes "LOG-SELECT"
class_name LogSense = codes "LOG-SENSE"
class_name ModeSelect10 = codes "MODE-SELECT(10)"
class_name ModeSense10 = codes "MODE-SENSE(10)"
class_name ReportSupportedOperationCodes = codes "REPORT-OPCODES"
class_name ReportSupportedTaskManagementFunctions = codes "REPORT-TASK-MANAGEMENT"
class_name PositionToElement = codes "POSITION-TO-ELEMENT"
class_name ExchangeMedium = codes "EXCHANGE-MEDIUM"

abbrev pub type_name : ResType → List ℕ
type_name None = codes "NONE"
type_name We = codes "WE"
type_name Ea = codes "EA"
type_name Wero = codes "WERO"
type_name Earo = codes "EARO"
type_name Wear = codes "WEAR"
type_name Eaar = codes "EAAR"

abbrev pub role_name : Role → List ℕ
role_name Holder = codes "HOLDER"
role_name Registered = codes "REGISTERED"
role_name Other = codes "OTHER"

-- a cell as CLASS/TYPE/ROLE
abbrev pub cell_text : Cell → List ℕ
cell_text c = class_name c.class ++ codes "/" ++ type_name c.res_type ++ codes "/" ++ role_name c.role
