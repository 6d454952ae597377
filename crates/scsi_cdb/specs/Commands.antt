-- The commands (SPC-4, SSC-4, SMC-3): for each its operation code, the length of its CDB, the units that
-- have it, and its fields.
use Rattle.std.specs.Prelude.{ℕ, ◌-◌, ◌==◌, ◌&&◌, nat_lt, Bool, true, false, List, [], ◌∷◌, length, Option, Some, None, Result, Ok, Err, if◌then◌else◌, find}
use Rattle.scsi_cdb.specs.Bits.{bit, bits, byte, two_bytes, three_bytes, four_bytes, signed_three_bytes}
use Rattle.scsi_cdb.specs.HostCommands.{send_diagnostic, log_select, log_sense, mode_select_10, mode_sense_10, maintenance_in, position_to_element, initialize_with_range, exchange_medium}
use Rattle.scsi_cdb.specs.declared.action.InServiceAction.{InServiceAction}
use Rattle.scsi_cdb.specs.declared.action.InServiceAction.TheVariants as in_act
use Rattle.scsi_cdb.specs.ServiceActions.{out_service_action}
use Rattle.scsi_cdb.specs.declared.service_action.OutServiceAction.{OutServiceAction}
use Rattle.scsi_cdb.specs.declared.fault.CdbFault.{CdbFault}
use Rattle.scsi_cdb.specs.declared.fault.CdbFault.TheVariants.{Opcode, ShortCdb, ServiceAction, Naca}
use Rattle.scsi_cdb.specs.declared.kind.Kind.{Kind}
use Rattle.scsi_cdb.specs.declared.kind.Kind.TheVariants.{Drive, Changer}
use Rattle.scsi_cdb.specs.declared.profile.CommandSet.{CommandSet}
use Rattle.scsi_cdb.specs.declared.profile.Profile.{Profile}
use Rattle.scsi_cdb.specs.declared.profile.Profile.TheVariants.{Spec, Hosts}
use Rattle.scsi_cdb.specs.declared.host_request.HostRequest.{HostRequest}
use Rattle.scsi_cdb.specs.declared.request.Request.{Request}
use Rattle.scsi_cdb.specs.declared.request.Request.TheVariants.{TestUnitReady, Rewind, RequestSense, ReadBlockLimits, InitializeElementStatus, Read, Write, WriteFilemarks, Space, Inquiry, ModeSelect, Erase, ModeSense, LoadUnload, PreventAllowMediumRemoval, Locate, ReadPosition, PersistentReserveIn, PersistentReserveOut, ReportLuns, MoveMedium, ReadElementStatus, Host}

-- which kinds of unit have a command: both, the drives, the changer
pub data Units : Type 0 where
  Both : Units
  Drives : Units
  Changers : Units

abbrev pub has : Units → Kind → Bool
has Both kind = true
has Drives Drive = true
has Drives Changer = false
has Changers Drive = false
has Changers Changer = true

-- a command, and what a CDB of it says: nothing where the service action isn't one of the command's own
pub record Row : Type 0 where
  pub opcode : ℕ
  pub length : ℕ
  pub units : Units
  pub fields : List ℕ → Option Request

abbrev pub row : ℕ → ℕ → Units → (List ℕ → Option Request) → Row
row opcode length units fields = record { opcode = opcode; length = length; units = units; fields = fields }

-- the service actions of PERSISTENT RESERVE IN
abbrev pub in_service_action : ℕ → Option InServiceAction
in_service_action code =
    if code == 0x00 then Some in_act.ReadKeys
    else if code == 0x01 then Some in_act.ReadReservation
    else if code == 0x02 then Some in_act.ReportCapabilities
    else if code == 0x03 then Some in_act.ReadFullStatus
    else None

-- the service actions of READ POSITION: the short form, with block identifiers; in the hosts' profile also the short form with vendor specific
-- ones, which are the same (profile)
abbrev pub read_position : Profile → ℕ → Option Request
read_position Spec code = if code == 0x00 then Some ReadPosition else None
read_position Hosts code = if code == 0x00 then Some ReadPosition else if code == 0x01 then Some ReadPosition else None

abbrev pub reserve_in : Option InServiceAction → ℕ → Option Request
reserve_in None allocation_length = None
reserve_in (Some action) allocation_length = Some (PersistentReserveIn action allocation_length)

abbrev pub reserve_out : Option OutServiceAction → ℕ → ℕ → Option Request
reserve_out None scope_type list_length = None
reserve_out (Some action) scope_type list_length = Some (PersistentReserveOut action scope_type list_length)

abbrev pub of_host : Option HostRequest → Option Request
of_host None = None
of_host (Some request) = Some (Host request)

-- the commands that only the hosts' profile has, in order of their operation codes; a CDB is c
abbrev pub host_rows : Profile → List Row
host_rows Spec = []
host_rows Hosts =
    row 0x1D 6 Both (λ c. Some (Host (send_diagnostic c)))
    ∷ row 0x2B 10 Changers (λ c. Some (Host (position_to_element c)))
    ∷ row 0x37 10 Changers (λ c. Some (Host (initialize_with_range c)))
    ∷ row 0x4C 10 Both (λ c. Some (Host (log_select c)))
    ∷ row 0x4D 10 Both (λ c. Some (Host (log_sense c)))
    ∷ row 0x55 10 Drives (λ c. Some (Host (mode_select_10 c)))
    ∷ row 0x5A 10 Both (λ c. Some (Host (mode_sense_10 c)))
    ∷ row 0xA3 12 Both (λ c. of_host (maintenance_in (bits c 1 4 0) c))
    ∷ row 0xA6 12 Changers (λ c. Some (Host (exchange_medium c)))
    ∷ []

-- the commands of a profile: those of both in order of their operation codes, then its own
abbrev pub table : Profile → List Row
table profile =
    row 0x00 6 Both (λ c. Some TestUnitReady)
    ∷ row 0x01 6 Drives (λ c. Some Rewind)
    ∷ row 0x03 6 Both (λ c. Some (RequestSense (bit c 1 0) (byte c 4)))
    ∷ row 0x05 6 Drives (λ c. Some ReadBlockLimits)
    ∷ row 0x07 6 Changers (λ c. Some InitializeElementStatus)
    ∷ row 0x08 6 Drives (λ c. Some (Read (bit c 1 1) (bit c 1 0) (three_bytes c 2)))
    ∷ row 0x0A 6 Drives (λ c. Some (Write (bit c 1 0) (three_bytes c 2)))
    ∷ row 0x10 6 Drives (λ c. Some (WriteFilemarks (bit c 1 1) (bit c 1 0) (three_bytes c 2)))
    ∷ row 0x11 6 Drives (λ c. Some (Space (bits c 1 3 0) (signed_three_bytes c 2)))
    ∷ row 0x12 6 Both (λ c. Some (Inquiry (bit c 1 0) (byte c 2) (two_bytes c 3)))
    ∷ row 0x15 6 Drives (λ c. Some (ModeSelect (bit c 1 0) (byte c 4)))
    ∷ row 0x19 6 Drives (λ c. Some Erase)
    ∷ row 0x1A 6 Both (λ c. Some (ModeSense (bit c 1 3) (bits c 2 7 6) (bits c 2 5 0) (byte c 3) (byte c 4)))
    ∷ row 0x1B 6 Drives (λ c. Some (LoadUnload (bit c 4 3) (bit c 4 2) (bit c 4 0)))
    ∷ row 0x1E 6 Both (λ c. Some (PreventAllowMediumRemoval (bits c 4 1 0)))
    ∷ row 0x2B 10 Drives (λ c. Some (Locate (bit c 1 2) (bit c 1 1) (four_bytes c 3) (byte c 8)))
    ∷ row 0x34 10 Drives (λ c. read_position profile (bits c 1 4 0))
    ∷ row 0x5E 10 Both (λ c. reserve_in (in_service_action (bits c 1 4 0)) (two_bytes c 7))
    ∷ row 0x5F 10 Both (λ c. reserve_out (out_service_action (bits c 1 4 0)) (byte c 2) (four_bytes c 5))
    ∷ row 0xA0 12 Both (λ c. Some (ReportLuns (byte c 2) (four_bytes c 6)))
    ∷ row 0xA5 12 Changers (λ c. Some (MoveMedium (two_bytes c 2) (two_bytes c 4) (two_bytes c 6) (bit c 10 0)))
    ∷ row 0xB8 12 Changers (λ c. Some (ReadElementStatus
    (bit c 1 4) (bits c 1 3 0) (two_bytes c 2) (two_bytes c 4) (bit c 6 1) (bit c 6 0) (three_bytes c 7)))
    ∷ host_rows profile

-- the command of an operation code that units of a kind have, among some: 2Bh is one of drives, and another one of changers
abbrev pub had : Kind → ℕ → List Row → Option Row
had kind opcode rows = find (λ (r : Row). r.opcode == opcode && has r.units kind) rows

-- and among those of a profile
unfoldable pub command_of : Profile → Kind → ℕ → Option Row
command_of profile kind opcode = had kind opcode (table profile)

abbrev pub fields_in : Option Row → List ℕ → Option Request
fields_in None cdb = None
fields_in (Some r) cdb = r.fields cdb

-- the length of a CDB by the group code of its operation code, bits 7 to 5 (SPC-4, "Operation code"): 0 is six bytes, 1 and 2 are ten, 5 is
-- twelve; other groups have no command here
abbrev pub length_of_group : (group : ℕ) → ℕ
length_of_group group = if group == 0 then 6 else if group == 1 then 10 else if group == 2 then 10 else 12

-- NACA is bit 2 of the CONTROL byte, the last of the command's length
abbrev pub naca : Row → List ℕ → Bool
naca r cdb = bit cdb (r.length - 1) 2

abbrev pub checked : Bool → Option Request → Result Request CdbFault
checked naca None = Err ServiceAction
checked true (Some r) = Err Naca
checked false (Some r) = Ok r

abbrev pub read_as : Option Row → List ℕ → Result Request CdbFault
read_as None cdb = Err Opcode
read_as (Some r) cdb = if nat_lt (length cdb) r.length then Err ShortCdb else checked (naca r cdb) (r.fields cdb)

-- the request that a CDB decodes to for a unit with these commands, or the first fault in order
abbrev pub decoded : CommandSet → List ℕ → Result Request CdbFault
decoded commands cdb = if length cdb == 0 then Err ShortCdb else read_as (command_of commands.profile commands.kind (byte cdb 0)) cdb
