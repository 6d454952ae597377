-- The commands that only the hosts' profile has (SPC-4, SMC-3): what a CDB of each says, its class, and its bytes.
use Rattle.std.specs.Prelude.{ℕ, ◌+◌, ◌==◌, ◌<◌, ◌^◌, List, [], ◌∷◌, ◌++◌, Option, Some, None, if◌then◌else◌}
use Rattle.scsi_cdb.specs.Bits.{bit, bits, byte, two_bytes, four_bytes}
use Rattle.scsi_cdb.specs.Bytes.{at, from, two, four, padded}
use Rattle.scsi_cdb.specs.declared.classes.Class.{Class}
use Rattle.scsi_cdb.specs.declared.classes.Class.TheVariants as class
use Rattle.scsi_cdb.specs.declared.host_request.HostRequest.{HostRequest}
use Rattle.scsi_cdb.specs.declared.host_request.HostRequest.TheVariants.{SendDiagnostic, LogSelect, LogSense, ModeSelect10, ModeSense10, ReportSupportedOperationCodes, ReportSupportedTaskManagementFunctions, PositionToElement, InitializeElementStatusWithRange, ExchangeMedium}

-- WHAT A CDB SAYS: its bytes are c
abbrev pub send_diagnostic : List ℕ → HostRequest
send_diagnostic c = SendDiagnostic (bits c 1 7 5) (bit c 1 2) (two_bytes c 3)

abbrev pub log_select : List ℕ → HostRequest
log_select c = LogSelect (bit c 1 1) (bit c 1 0) (bits c 2 7 6) (bits c 2 5 0) (byte c 3) (two_bytes c 7)

abbrev pub log_sense : List ℕ → HostRequest
log_sense c = LogSense (bit c 1 1) (bit c 1 0) (bits c 2 7 6) (bits c 2 5 0) (byte c 3) (two_bytes c 5) (two_bytes c 7)

abbrev pub mode_select_10 : List ℕ → HostRequest
mode_select_10 c = ModeSelect10 (bit c 1 0) (two_bytes c 7)

abbrev pub mode_sense_10 : List ℕ → HostRequest
mode_sense_10 c = ModeSense10 (bit c 1 3) (bits c 2 7 6) (bits c 2 5 0) (byte c 3) (two_bytes c 7)

abbrev pub supported_operation_codes : List ℕ → HostRequest
supported_operation_codes c = ReportSupportedOperationCodes (bit c 2 7) (bits c 2 2 0) (byte c 3) (two_bytes c 4) (four_bytes c 6)

abbrev pub supported_task_management : List ℕ → HostRequest
supported_task_management c = ReportSupportedTaskManagementFunctions (bit c 2 7) (four_bytes c 6)

abbrev pub position_to_element : List ℕ → HostRequest
position_to_element c = PositionToElement (two_bytes c 2) (two_bytes c 4) (bit c 8 0)

abbrev pub initialize_with_range : List ℕ → HostRequest
initialize_with_range c = InitializeElementStatusWithRange (bit c 1 1) (bit c 1 0) (two_bytes c 2) (two_bytes c 6)

-- in byte 10 INV1, then INV2
abbrev pub exchange_medium : List ℕ → HostRequest
exchange_medium c = ExchangeMedium (two_bytes c 2) (two_bytes c 4) (two_bytes c 6) (two_bytes c 8) (bit c 10 1) (bit c 10 0)

-- the service actions of MAINTENANCE IN
abbrev pub maintenance_in : (service_action : ℕ) → List ℕ → Option HostRequest
maintenance_in service_action c =
    if service_action == 0x0C then Some (supported_operation_codes c)
    else if service_action == 0x0D then Some (supported_task_management c)
    else None

-- THE CLASS of each: a class of its own, but INITIALIZE ELEMENT STATUS WITH RANGE has that of INITIALIZE ELEMENT STATUS (profile)
abbrev pub host_class_of : HostRequest → Class
host_class_of (SendDiagnostic code test n) = class.SendDiagnostic
host_class_of (LogSelect pcr sp pc page subpage n) = class.LogSelect
host_class_of (LogSense ppc sp pc page subpage pointer n) = class.LogSense
host_class_of (ModeSelect10 sp n) = class.ModeSelect10
host_class_of (ModeSense10 dbd pc page subpage n) = class.ModeSense10
host_class_of (ReportSupportedOperationCodes rctd options code action n) = class.ReportSupportedOperationCodes
host_class_of (ReportSupportedTaskManagementFunctions repd n) = class.ReportSupportedTaskManagementFunctions
host_class_of (PositionToElement transport destination invert) = class.PositionToElement
host_class_of (InitializeElementStatusWithRange fast range start count) = class.InitializeElementStatus
host_class_of (ExchangeMedium transport source first second inv1 inv2) = class.ExchangeMedium

-- THE BYTES of each in their order
abbrev pub host_encoded : HostRequest → List ℕ
host_encoded (SendDiagnostic code test n) = padded (0x1D ∷ (from 7 5 code + at 2 test) ∷ 0 ∷ two n)
host_encoded (LogSelect pcr sp pc page subpage n) =
    padded (0x4C ∷ (at 1 pcr + at 0 sp) ∷ (from 7 6 pc + from 5 0 page) ∷ subpage ∷ 0 ∷ 0 ∷ 0 ∷ two n)
host_encoded (LogSense ppc sp pc page subpage pointer n) =
    padded (0x4D ∷ (at 1 ppc + at 0 sp) ∷ (from 7 6 pc + from 5 0 page) ∷ subpage ∷ 0 ∷ (two pointer ++ two n))
host_encoded (ModeSelect10 sp n) = padded (0x55 ∷ at 0 sp ∷ 0 ∷ 0 ∷ 0 ∷ 0 ∷ 0 ∷ two n)
host_encoded (ModeSense10 dbd pc page subpage n) =
    padded (0x5A ∷ at 3 dbd ∷ (from 7 6 pc + from 5 0 page) ∷ subpage ∷ 0 ∷ 0 ∷ 0 ∷ two n)
host_encoded (ReportSupportedOperationCodes rctd options code action n) =
    padded (0xA3 ∷ 0x0C ∷ (at 7 rctd + from 2 0 options) ∷ code ∷ (two action ++ four n))
host_encoded (ReportSupportedTaskManagementFunctions repd n) = padded (0xA3 ∷ 0x0D ∷ at 7 repd ∷ 0 ∷ 0 ∷ 0 ∷ four n)
host_encoded (PositionToElement transport destination invert) =
    padded (0x2B ∷ 0 ∷ (two transport ++ two destination ++ 0 ∷ 0 ∷ at 0 invert ∷ []))
host_encoded (InitializeElementStatusWithRange fast range start count) =
    padded (0x37 ∷ (at 1 fast + at 0 range) ∷ (two start ++ 0 ∷ 0 ∷ two count))
host_encoded (ExchangeMedium transport source first second inv1 inv2) =
    padded (0xA6 ∷ 0 ∷ (two transport ++ two source ++ two first ++ two second ++ (at 1 inv1 + at 0 inv2) ∷ []))

-- the fields fit their bits
abbrev pub HostFits : HostRequest → Type 0
HostFits (SendDiagnostic code test n) = (code < 2 ^ 3) × (n < 2 ^ 16)
HostFits (LogSelect pcr sp pc page subpage n) = (pc < 2 ^ 2) × (page < 2 ^ 6) × (subpage < 2 ^ 8) × (n < 2 ^ 16)
HostFits (LogSense ppc sp pc page subpage pointer n) = (pc < 2 ^ 2) × (page < 2 ^ 6) × (subpage < 2 ^ 8) × (pointer < 2 ^ 16) × (n < 2 ^ 16)
HostFits (ModeSelect10 sp n) = n < 2 ^ 16
HostFits (ModeSense10 dbd pc page subpage n) = (pc < 2 ^ 2) × (page < 2 ^ 6) × (subpage < 2 ^ 8) × (n < 2 ^ 16)
HostFits (ReportSupportedOperationCodes rctd options code action n) = (options < 2 ^ 3) × (code < 2 ^ 8) × (action < 2 ^ 16) × (n < 2 ^ 32)
HostFits (ReportSupportedTaskManagementFunctions repd n) = n < 2 ^ 32
HostFits (PositionToElement transport destination invert) = (transport < 2 ^ 16) × (destination < 2 ^ 16)
HostFits (InitializeElementStatusWithRange fast range start count) = (start < 2 ^ 16) × (count < 2 ^ 16)
HostFits (ExchangeMedium transport source first second inv1 inv2) =
    (transport < 2 ^ 16) × (source < 2 ^ 16) × (first < 2 ^ 16) × (second < 2 ^ 16)
