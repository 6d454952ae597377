-- The exit status of each fault of the program, and what it writes on standard error (profile).
use Rattle.std.specs.Prelude.{ℕ, List, [], ◌∷◌, ◌++◌, Option, Some, None, Result, Ok, Err, codes, string_bytes}
use Rattle.std.specs.Option.{option_map}
use Rattle.program_options.specs.CommandLineFaults.{command_line_status, command_line_text}
use Rattle.client_session.specs.Faults as session
use Rattle.configuration_file.specs.Faults.{configuration_status}
use Rattle.given_options.specs.Rules.{rule_text}
use Rattle.library_server.specs.Faults.{socket_status, socket_text}
use Rattle.media_folder.specs.Faults.{check_status}
use Rattle.record_words.specs.Faults.{explain_status, explain_text}
use Rattle.script_input.specs.ReplayFaults as replay
use Rattle.script_input.specs.InputFaults as input
use Rattle.vtl.specs.declared.client_fault.ClientFault.{ClientFault}
use Rattle.vtl.specs.declared.client_fault.ClientFault.TheVariants as client
use Rattle.vtl.specs.declared.status_fault.StatusFault.{StatusFault}
use Rattle.vtl.specs.declared.status_fault.StatusFault.TheVariants as status
use Rattle.vtl.specs.declared.program_fault.ProgramFault.{ProgramFault}
use Rattle.vtl.specs.declared.program_fault.ProgramFault.TheVariants.{CommandLine, Options, Configuration, Replay, Serve, Client, Status, Cells, Check, Explain}

abbrev pub client_status : ClientFault → ℕ
client_status (client.Input fault) = input.exit_status fault
client_status (client.CannotConnect path) = 4
client_status (client.Session fault) = session.exit_status fault

abbrev pub status_status : StatusFault → ℕ
status_status (status.CannotConnect path) = 4
status_status (status.Cut path) = 4
status_status status.Output = 4
status_status status.NoMemory = 3

abbrev pub program_status : ProgramFault → ℕ
program_status (CommandLine fault) = command_line_status fault
program_status (Options rule) = 2
program_status (Configuration fault) = configuration_status fault
program_status (Replay fault) = replay.exit_status fault
program_status (Serve fault) = socket_status fault
program_status (Client fault) = client_status fault
program_status (Status fault) = status_status fault
program_status Cells = 4
program_status (Check fault) = check_status fault
program_status (Explain fault) = explain_status fault

-- the second line names the path
abbrev pub client_text : ClientFault → List ℕ
client_text (client.Input fault) = input.fault_text fault
client_text (client.CannotConnect path) = codes "vtl: device fault\nvtl: cannot connect to " ++ string_bytes path
client_text (client.Session fault) = session.fault_text fault

abbrev pub status_text : StatusFault → List ℕ
status_text (status.CannotConnect path) = codes "vtl: device fault\nvtl: no server answers at " ++ (string_bytes path ++ codes " (see --control of vtl serve)")
status_text (status.Cut path) = codes "vtl: device fault\nvtl: the status from " ++ (string_bytes path ++ codes " is not whole")
status_text status.Output = codes "vtl: device fault\nvtl: the status could not be written"
status_text status.NoMemory = codes "vtl: want of memory"

abbrev pub program_text : ProgramFault → Option (List ℕ)
program_text (CommandLine fault) = command_line_text fault
program_text (Options rule) = Some (rule_text rule)
program_text (Configuration fault) = None
program_text (Replay fault) = Some (replay.fault_text fault)
program_text (Serve fault) = socket_text fault
program_text (Client fault) = Some (client_text fault)
program_text (Status fault) = Some (status_text fault)
program_text Cells = Some (codes "vtl: device fault\nvtl: the permission table could not be written")
program_text (Check fault) = None
program_text (Explain fault) = Some (explain_text fault)

-- how the program ends: nothing is written where the task was done, and else the text and a line feed
abbrev pub ending_status : Result (Unit {0}) ProgramFault → ℕ
ending_status (Ok done) = 0
ending_status (Err fault) = program_status fault

abbrev pub ending_line : Result (Unit {0}) ProgramFault → Option (List ℕ)
ending_line (Ok done) = Some []
ending_line (Err fault) = option_map (λ text. text ++ 10 ∷ []) (program_text fault)
