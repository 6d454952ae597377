-- The parameter data of REPORT SUPPORTED OPERATION CODES (SPC-4, "REPORT SUPPORTED OPERATION CODES parameter data").
use Rattle.std.specs.Prelude.{ℕ, ◌+◌, ◌/◌, ◌%◌, ◌^◌, ◌==◌, Bool, false, ◌&&◌, not, List, [], ◌∷◌, ◌++◌, length, find, Option, Some, None, Result, Ok, Err, if◌then◌else◌}
use Rattle.std.specs.List.{flat_map}
use Rattle.scsi_sense.specs.declared.condition.Condition.{Condition}
use Rattle.scsi_sense.specs.declared.condition.Condition.TheVariants.{InvalidFieldInCdb}
use Rattle.scsi_cdb.specs.declared.kind.Kind.{Kind}
use Rattle.supported_commands.specs.declared.command.Command.{Command}
use Rattle.supported_commands.specs.declared.options.ReportingOptions.{ReportingOptions}
use Rattle.supported_commands.specs.declared.options.ReportingOptions.TheVariants.{All, OneWithoutServiceActions, OneWithServiceAction, Either}
use Rattle.supported_commands.specs.declared.request.ReportOperationCodes.{ReportOperationCodes}
use Rattle.supported_commands.specs.Commands.{table, commands_of, has, usage_bytes, has_service_action, action_field, nominal_seconds}

-- a number of two bytes and one of four, the most significant byte first
abbrev pub two_bytes : ℕ → List ℕ
two_bytes n = n / 2 ^ 8 % 2 ^ 8 ∷ n % 2 ^ 8 ∷ []

abbrev pub four_bytes : ℕ → List ℕ
four_bytes n = n / 2 ^ 24 % 2 ^ 8 ∷ n / 2 ^ 16 % 2 ^ 8 ∷ n / 2 ^ 8 % 2 ^ 8 ∷ n % 2 ^ 8 ∷ []

-- the command timeouts descriptor: how many bytes follow, a reserved byte, a command specific one, and the two times in seconds
abbrev pub timeouts_descriptor : Command → List ℕ
timeouts_descriptor c = 0x00 ∷ 0x0A ∷ 0x00 ∷ 0x00 ∷ [] ++ four_bytes nominal_seconds ++ four_bytes c.recommended_seconds

-- which follows where it is asked for (RCTD)
abbrev pub timeouts : (return_timeouts : Bool) → Command → List ℕ
timeouts return_timeouts c = if return_timeouts then timeouts_descriptor c else []

-- CTDP is bit 1, SERVACTV bit 0
abbrev pub flags : (return_timeouts : Bool) → Command → ℕ
flags return_timeouts c = (if return_timeouts then 0x02 else 0x00) + (if has_service_action c then 0x01 else 0x00)

-- a command descriptor: the operation code, the service action, the flags and the length of the CDB, with reserved bytes between
abbrev pub descriptor : (return_timeouts : Bool) → Command → List ℕ
descriptor return_timeouts c =
    c.operation_code ∷ 0x00 ∷ [] ++ two_bytes (action_field c) ++ 0x00 ∷ flags return_timeouts c ∷ []
    ++ two_bytes (length (usage_bytes c.usage)) ++ timeouts return_timeouts c

-- the data of all commands: how many bytes follow, and a descriptor for each
abbrev pub all_commands : Kind → (return_timeouts : Bool) → List ℕ
all_commands kind return_timeouts =
    let descriptors = flat_map (descriptor return_timeouts) (commands_of kind) in four_bytes (length descriptors) ++ descriptors

-- the data of one command: a reserved byte, CTDP in bit 7 with SUPPORT, the length of its CDB, CDB USAGE DATA; SUPPORT alone where
-- it isn't supported
abbrev pub one_command : (return_timeouts : Bool) → Option Command → List ℕ
one_command return_timeouts None = 0x00 ∷ 0x01 ∷ 0x00 ∷ 0x00 ∷ []
one_command return_timeouts (Some c) =
    0x00 ∷ (if return_timeouts then 0x83 else 0x03) ∷ [] ++ two_bytes (length (usage_bytes c.usage)) ++ usage_bytes c.usage
    ++ timeouts return_timeouts c

-- the first command of an operation code, and the one of a service action, 0 where it has none, that units of a kind have
abbrev pub command_with_code : Kind → (code : ℕ) → Option Command
command_with_code kind code = find (λ (c : Command). has c.units kind && c.operation_code == code) table

abbrev pub command_with_action : Kind → (code service_action : ℕ) → Option Command
command_with_action kind code service_action =
    find (λ (c : Command). has c.units kind && c.operation_code == code && action_field c == service_action) table

-- an operation code with service actions can't be asked for without, nor one without with; one that isn't supported can
abbrev pub is_refused : ReportingOptions → (first : Option Command) → Bool
is_refused options None = false
is_refused All (Some c) = false
is_refused OneWithoutServiceActions (Some c) = has_service_action c
is_refused OneWithServiceAction (Some c) = not (has_service_action c)
is_refused Either (Some c) = false

-- the data for what is asked
abbrev pub data_for : Kind → ReportOperationCodes → ReportingOptions → List ℕ
data_for kind asked All = all_commands kind asked.return_timeouts
data_for kind asked OneWithoutServiceActions = one_command asked.return_timeouts (command_with_code kind asked.operation_code)
data_for kind asked OneWithServiceAction =
    one_command asked.return_timeouts (command_with_action kind asked.operation_code asked.service_action)
data_for kind asked Either =
    one_command asked.return_timeouts (command_with_action kind asked.operation_code asked.service_action)

-- why it is refused, which its fields decide alone
abbrev pub operation_codes_fault : Kind → ReportOperationCodes → Option Condition
operation_codes_fault kind asked =
    if is_refused asked.options (command_with_code kind asked.operation_code) then Some InvalidFieldInCdb else None

-- the answer of a unit
abbrev pub operation_codes : Kind → ReportOperationCodes → Result (List ℕ) Condition
operation_codes kind asked =
    if is_refused asked.options (command_with_code kind asked.operation_code) then Err InvalidFieldInCdb
    else Ok (data_for kind asked asked.options)
