-- The bytes of a request: what is no field of it is zero.
use Rattle.std.specs.Prelude.{◌≡◌, ℕ, ◌+◌, ◌-◌, ◌%◌, ◌^◌, ◌<◌, Bool, true, false, ℤ, pos, negsuc, ◌<ℤ◌, ◌≤ℤ◌, neg_ℤ, List, [], ◌∷◌, ◌++◌, slice_index, IsSome, Ok}
use Rattle.scsi_cdb.specs.Bytes.{at, from, two, three, four, padded}
use Rattle.scsi_cdb.specs.Commands.{command_of, decoded}
use Rattle.scsi_cdb.specs.HostCommands.{host_encoded, HostFits}
use Rattle.scsi_cdb.specs.declared.profile.CommandSet.{CommandSet}
use Rattle.scsi_cdb.specs.declared.action.InServiceAction.{InServiceAction}
use Rattle.scsi_cdb.specs.declared.action.InServiceAction.TheVariants as in_act
use Rattle.scsi_cdb.specs.ServiceActions.{out_code}
use Rattle.scsi_cdb.specs.declared.host_request.HostRequest.TheVariants.{PositionToElement}
use Rattle.scsi_cdb.specs.declared.kind.Kind.{Kind}
use Rattle.scsi_cdb.specs.declared.kind.Kind.TheVariants.{Drive, Changer}
use Rattle.scsi_cdb.specs.declared.request.Request.{Request}
use Rattle.scsi_cdb.specs.declared.request.Request.TheVariants.{TestUnitReady, Rewind, RequestSense, ReadBlockLimits, InitializeElementStatus, Read, Write, WriteFilemarks, Space, Inquiry, ModeSelect, Erase, ModeSense, LoadUnload, PreventAllowMediumRemoval, Locate, ReadPosition, PersistentReserveIn, PersistentReserveOut, ReportLuns, MoveMedium, ReadElementStatus, Host}

-- a number in 24 bits as two's complement
abbrev pub twos_complement : ℤ → ℕ
twos_complement (pos n) = n % 2 ^ 24
twos_complement (negsuc n) = 2 ^ 24 - 1 - n % 2 ^ 24

-- the codes of the service actions
abbrev pub in_code : InServiceAction → ℕ
in_code in_act.ReadKeys = 0x00
in_code in_act.ReadReservation = 0x01
in_code in_act.ReportCapabilities = 0x02
in_code in_act.ReadFullStatus = 0x03

-- each command's bytes in their order
abbrev pub encoded : Request → List ℕ
encoded TestUnitReady = padded (0x00 ∷ [])
encoded Rewind = padded (0x01 ∷ [])
encoded (RequestSense desc n) = padded (0x03 ∷ at 0 desc ∷ 0 ∷ 0 ∷ n ∷ [])
encoded ReadBlockLimits = padded (0x05 ∷ [])
encoded InitializeElementStatus = padded (0x07 ∷ [])
encoded (Read sili fixed n) = padded (0x08 ∷ (at 1 sili + at 0 fixed) ∷ three n)
encoded (Write fixed n) = padded (0x0A ∷ at 0 fixed ∷ three n)
encoded (WriteFilemarks wsmk immed n) = padded (0x10 ∷ (at 1 wsmk + at 0 immed) ∷ three n)
encoded (Space code n) = padded (0x11 ∷ from 3 0 code ∷ three (twos_complement n))
encoded (Inquiry evpd page n) = padded (0x12 ∷ at 0 evpd ∷ page ∷ two n)
encoded (ModeSelect sp n) = padded (0x15 ∷ at 0 sp ∷ 0 ∷ 0 ∷ n ∷ [])
encoded Erase = padded (0x19 ∷ [])
encoded (ModeSense dbd pc page subpage n) = padded (0x1A ∷ at 3 dbd ∷ (from 7 6 pc + from 5 0 page) ∷ subpage ∷ n ∷ [])
encoded (LoadUnload hold eot load) = padded (0x1B ∷ 0 ∷ 0 ∷ 0 ∷ (at 3 hold + at 2 eot + at 0 load) ∷ [])
encoded (PreventAllowMediumRemoval prevent) = padded (0x1E ∷ 0 ∷ 0 ∷ 0 ∷ from 1 0 prevent ∷ [])
encoded (Locate bt cp n partition) = padded (0x2B ∷ (at 2 bt + at 1 cp) ∷ 0 ∷ (four n ++ 0 ∷ partition ∷ []))
encoded ReadPosition = padded (0x34 ∷ [])
encoded (PersistentReserveIn action n) = padded (0x5E ∷ in_code action ∷ 0 ∷ 0 ∷ 0 ∷ 0 ∷ 0 ∷ two n)
encoded (PersistentReserveOut action scope_type n) = padded (0x5F ∷ out_code action ∷ scope_type ∷ 0 ∷ 0 ∷ four n)
encoded (ReportLuns select n) = padded (0xA0 ∷ 0 ∷ select ∷ 0 ∷ 0 ∷ 0 ∷ four n)
encoded (MoveMedium transport source destination invert) =
    padded (0xA5 ∷ 0 ∷ (two transport ++ two source ++ two destination ++ 0 ∷ 0 ∷ at 0 invert ∷ []))
encoded (ReadElementStatus voltag type_code start count curdata dvcid n) =
    padded (0xB8 ∷ (at 4 voltag + from 3 0 type_code) ∷ (two start ++ two count ++ (at 1 curdata + at 0 dvcid) ∷ three n))
encoded (Host request) = host_encoded request

-- the fields fit their bits
abbrev pub Fits : Request → Type 0
Fits (RequestSense desc n) = n < 2 ^ 8
Fits (Read sili fixed n) = n < 2 ^ 24
Fits (Write fixed n) = n < 2 ^ 24
Fits (WriteFilemarks wsmk immed n) = n < 2 ^ 24
Fits (Space code n) = (code < 2 ^ 4) × (neg_ℤ (pos (2 ^ 23)) ≤ℤ n) × (n <ℤ pos (2 ^ 23))
Fits (Inquiry evpd page n) = (page < 2 ^ 8) × (n < 2 ^ 16)
Fits (ModeSelect sp n) = n < 2 ^ 8
Fits (ModeSense dbd pc page subpage n) = (pc < 2 ^ 2) × (page < 2 ^ 6) × (subpage < 2 ^ 8) × (n < 2 ^ 8)
Fits (PreventAllowMediumRemoval prevent) = prevent < 2 ^ 2
Fits (Locate bt cp n partition) = (n < 2 ^ 32) × (partition < 2 ^ 8)
Fits (PersistentReserveIn action n) = n < 2 ^ 16
Fits (PersistentReserveOut action scope_type n) = (scope_type < 2 ^ 8) × (n < 2 ^ 32)
Fits (ReportLuns select n) = (select < 2 ^ 8) × (n < 2 ^ 32)
Fits (MoveMedium transport source destination invert) = (transport < 2 ^ 16) × (source < 2 ^ 16) × (destination < 2 ^ 16)
Fits (ReadElementStatus voltag type_code start count curdata dvcid n) = (type_code < 2 ^ 4) × (start < 2 ^ 16) × (count < 2 ^ 16) × (n < 2 ^ 24)
Fits (Host request) = HostFits request
Fits _ = Unit {0}

-- whether the operation code of a request is of its command, at units of a kind: 2Bh is of LOCATE(10) at drives, and of POSITION TO ELEMENT
-- at changers
abbrev pub is_code_at : Kind → Request → Bool
is_code_at Changer (Locate bt cp n partition) = false
is_code_at Drive (Host (PositionToElement transport destination invert)) = false
is_code_at kind r = true

-- the request's command is one of these
abbrev pub IsOf : CommandSet → Request → Type 0
IsOf commands r = IsSome (command_of commands.profile commands.kind (slice_index (encoded r) 0)) × (is_code_at commands.kind r ≡ true)

-- what is written is read again, by a unit that has the command
abbrev pub ReadsBack : Type 0
ReadsBack = (commands : CommandSet) (r : Request) → IsOf commands r → Fits r → decoded commands (encoded r) ≡ Ok r
