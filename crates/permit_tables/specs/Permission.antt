-- The permission table: which classes of command a reservation lets through, by its type and the sender's role.
-- The table is this project's own (profile), in the form of the tables of commands that reservations allow in SPC-4, SSC-4
-- and SMC-3: a row for each class, a column for each kind of nexus that is no holder.
use Rattle.std.specs.Prelude.{Bool, true, false}
use Rattle.permit_tables.specs.declared.res_type.ResType.{ResType}
use Rattle.permit_tables.specs.declared.res_type.ResType.TheVariants.{None, We, Ea, Wero, Wear}
use Rattle.permit_tables.specs.declared.role.Role.{Role}
use Rattle.permit_tables.specs.declared.role.Role.TheVariants.{Holder, Registered}
use Rattle.scsi_cdb.specs.declared.classes.Class.{Class}
use Rattle.scsi_cdb.specs.declared.classes.Class.TheVariants.{TestUnitReady, RequestSense, Inquiry, ReportLuns, PersistentReserveIn, AllowRemoval, ReadBlockLimits, ReadPosition, ReadElementStatusCurdata, ModeSense, Read, Space, Locate, Rewind, ReadElementStatus, ModeSelect, PreventRemoval, Write, WriteFilemarks, Erase, LoadUnload, MoveMedium, InitializeElementStatus, Register, RegisterAndIgnoreExistingKey, Clear, Preempt, PreemptAndAbort, Release, Reserve, RegisterAndMove, SendDiagnostic, LogSelect, LogSense, ModeSelect10, ModeSense10, ReportSupportedOperationCodes, ReportSupportedTaskManagementFunctions, PositionToElement, ExchangeMedium}

-- A: allowed; C: a conflict
abbrev pub A : Bool
A = true

abbrev pub C : Bool
C = false

-- the columns, for a nexus that is no holder: under WE; under EA; registered under one of the four group types;
-- not registered under WERO or WEAR; not registered under EARO or EAAR
pub data Column : Type 0 where
  I : Column
  II : Column
  III : Column
  IV : Column
  V : Column

abbrev pub column : ResType → Role → Column
column We r = I
column Ea r = II
column t Registered = III
column Wero r = IV
column Wear r = IV
column t r = V

-- rows of the tables that are alike
pub data Group : Type 0 where
  Harmless : Group
  Reading : Group
  Changing : Group
  Enrolling : Group
  Registrants : Group
  Holders : Group

-- the row of each class
abbrev pub group_of : Class → Group
group_of TestUnitReady = Harmless
group_of RequestSense = Harmless
group_of Inquiry = Harmless
group_of ReportLuns = Harmless
group_of PersistentReserveIn = Harmless
group_of AllowRemoval = Harmless
group_of ReadBlockLimits = Harmless
group_of ReadPosition = Harmless
group_of ReadElementStatusCurdata = Harmless
group_of ModeSense = Reading
group_of Read = Reading
group_of Space = Reading
group_of Locate = Reading
group_of Rewind = Reading
group_of ReadElementStatus = Reading
group_of ModeSelect = Changing
group_of PreventRemoval = Changing
group_of Write = Changing
group_of WriteFilemarks = Changing
group_of Erase = Changing
group_of LoadUnload = Changing
group_of MoveMedium = Changing
group_of InitializeElementStatus = Changing
group_of Register = Enrolling
group_of RegisterAndIgnoreExistingKey = Enrolling
group_of Clear = Registrants
group_of Preempt = Registrants
group_of PreemptAndAbort = Registrants
group_of Release = Registrants
group_of Reserve = Holders
group_of RegisterAndMove = Holders
group_of LogSense = Harmless
group_of ModeSense10 = Reading
group_of ReportSupportedOperationCodes = Reading
group_of ReportSupportedTaskManagementFunctions = Reading
group_of ModeSelect10 = Changing
group_of LogSelect = Changing
group_of SendDiagnostic = Changing
group_of PositionToElement = Changing
group_of ExchangeMedium = Changing

-- a row of the table, by its letters in the columns' order
abbrev pub letter : (i ii iii iv v : Bool) → Column → Bool
letter i ii iii iv v I = i
letter i ii iii iv v II = ii
letter i ii iii iv v III = iii
letter i ii iii iv v IV = iv
letter i ii iii iv v V = v

-- a row of the second table, for the reservation acts under any type
abbrev pub act_letter : (registered other : Bool) → Role → Bool
act_letter registered other Registered = registered
act_letter registered other r = other

-- the two tables
abbrev pub cell_of : Group → ResType → Role → Bool
cell_of Harmless t r = letter A A A A A (column t r)
cell_of Reading t r = letter A C A A C (column t r)
cell_of Changing t r = letter C C A C C (column t r)
cell_of Enrolling t r = act_letter A A r
cell_of Registrants t r = act_letter A C r
cell_of Holders t r = act_letter C C r

-- with no reservation, or for a holder, every class is allowed
abbrev pub row_allows : Group → ResType → Role → Bool
row_allows g None r = true
row_allows g t Holder = true
row_allows g t r = cell_of g t r

-- whether a class is allowed from a nexus of this role under a reservation of this type
abbrev pub is_allowed : Class → ResType → Role → Bool
is_allowed c t r = row_allows (group_of c) t r
