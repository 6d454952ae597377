-- The exit status of a command line that names no task, and what is said of it (profile).
use Rattle.std.specs.Prelude.{ℕ, List, ◌++◌, Option, Some, None, codes, string_bytes}
use Rattle.clap.specs.Values.{kind_of}
use Rattle.clap.specs.declared.error.kind.ErrorKind.{ErrorKind}
use Rattle.clap.specs.declared.error.kind.ErrorKind.TheVariants.{DisplayHelp, DisplayVersion}
use Rattle.program_options.specs.Faults.{option_fault_text, option_status}
use Rattle.program_options.specs.declared.command_line_fault.CommandLineFault.{CommandLineFault}
use Rattle.program_options.specs.declared.command_line_fault.CommandLineFault.TheVariants.{Refused, NotText, NoClass, Options, Word, NoMemory}

-- help and the version are what was asked for
abbrev pub refusal_status : ErrorKind → ℕ
refusal_status DisplayHelp = 0
refusal_status DisplayVersion = 0
refusal_status _ = 2

abbrev pub command_line_status : CommandLineFault → ℕ
command_line_status (Refused error) = refusal_status (kind_of error)
command_line_status NotText = 2
command_line_status (NoClass name) = 2
command_line_status (Options fault) = option_status fault
command_line_status (Word fault word) = option_status fault
command_line_status NoMemory = 3

-- of a command line that isn't the program's, `clap` chooses the words
abbrev pub command_line_text : CommandLineFault → Option (List ℕ)
command_line_text (Refused error) = None
command_line_text NotText = Some (codes "vtl: arguments that are not text")
command_line_text (NoClass name) = Some (codes "vtl: no class of commands is named " ++ string_bytes name)
command_line_text (Options fault) = Some (option_fault_text fault)
command_line_text (Word fault word) = Some (option_fault_text fault ++ (codes ": " ++ string_bytes word))
command_line_text NoMemory = Some (codes "vtl: want of memory")
