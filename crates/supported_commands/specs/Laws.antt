-- What holds of the commands as a whole: which are listed for a kind of unit, and how their CDB USAGE DATA are made.
use Rattle.std.specs.Prelude.{◌≡◌, ◌<◌, ℕ, ◌-◌, ◌/◌, ◌==◌, nat_lt, Bool, true, not, if◌then◌else◌, ◌&&◌, ◌||◌, List, [], ◌∷◌, length, slice_index, Option, Some, None, is_some}
use Rattle.std.specs.List.{list_any}
use Rattle.scsi_cdb.specs.declared.kind.Kind.{Kind}
use Rattle.scsi_cdb.specs.declared.kind.Kind.TheVariants.{Drive, Changer}
use Rattle.scsi_cdb.specs.declared.profile.Profile.TheVariants.{Hosts}
use Rattle.scsi_cdb.specs.Commands.{Row, command_of, length_of_group}
use Rattle.supported_commands.specs.declared.command.Command.{Command}
use Rattle.supported_commands.specs.declared.options.ReportingOptions.{ReportingOptions}
use Rattle.supported_commands.specs.declared.request.ReportOperationCodes.{ReportOperationCodes}
use Rattle.supported_commands.specs.Commands.{table, has, usage_bytes, has_service_action, action_field}
use Rattle.supported_commands.specs.Answers.{command_with_action}

-- what is asked, for rows
abbrev pub asked : (return_timeouts : Bool) → ReportingOptions → (code service_action : ℕ) → ReportOperationCodes
asked return_timeouts options code service_action =
    record { return_timeouts = return_timeouts; options = options; operation_code = code; service_action = service_action }

-- whether a command of this operation code is listed for a kind of unit
abbrev pub is_listed : Kind → (code : ℕ) → Bool
is_listed kind code = list_any (λ (c : Command). has c.units kind && c.operation_code == code) table

-- law: the operation codes that are listed are those of the commands of the hosts' profile
abbrev pub ListsEachCode : Type 0
ListsEachCode = (kind : Kind) (code : ℕ) → code < 0x100 → is_listed kind code ≡ is_some (command_of Hosts kind code)

-- the service actions of an operation code that units of the kind have
abbrev pub has_action : Kind → (code service_action : ℕ) → Bool
has_action kind code service_action = is_some (command_with_action kind code service_action)

-- CDB USAGE DATA has the length of the group code, and that of the command of each kind of unit
abbrev pub is_row_length : Option Row → ℕ → Bool
is_row_length None n = true
is_row_length (Some r) n = r.length == n

abbrev pub has_cdb_length : Command → Bool
has_cdb_length c =
    let n = length (usage_bytes c.usage) in
    n == length_of_group (c.operation_code / 0x20) && is_row_length (command_of Hosts Drive c.operation_code) n
    && is_row_length (command_of Hosts Changer c.operation_code) n

-- it begins with the operation code, has the service action in byte 1, and of the CONTROL byte, the last, NACA alone counts
abbrev pub is_action_at : Option ℕ → ℕ → Bool
is_action_at None byte = true
is_action_at (Some a) byte = byte == a

abbrev pub is_well_formed : Command → Bool
is_well_formed c =
    let bytes = usage_bytes c.usage in
    slice_index bytes 0 == c.operation_code && is_action_at c.service_action (slice_index bytes 1)
    && slice_index bytes (length bytes - 1) == 0x04

-- the operation codes whose commands have service actions: READ POSITION, PERSISTENT RESERVE IN and OUT, MAINTENANCE IN
abbrev pub codes_with_service_actions : List ℕ
codes_with_service_actions = 0x34 ∷ 0x5E ∷ 0x5F ∷ 0xA3 ∷ []

abbrev pub has_action_where_due : Command → Bool
has_action_where_due c =
    let due = list_any (λ (code : ℕ). code == c.operation_code) codes_with_service_actions in
    if has_service_action c then due else not due

-- ascending by operation code and service action
abbrev pub comes_before : Command → Command → Bool
comes_before a b =
    nat_lt a.operation_code b.operation_code || (a.operation_code == b.operation_code && nat_lt (action_field a) (action_field b))

abbrev pub follows_in_order : Command → List Command → Bool
follows_in_order a [] = true
follows_in_order a (b ∷ rest) = comes_before a b && follows_in_order b rest

abbrev pub is_ascending : List Command → Bool
is_ascending [] = true
is_ascending (a ∷ rest) = follows_in_order a rest
