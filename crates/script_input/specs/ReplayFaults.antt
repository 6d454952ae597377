-- The exit status of each fault of a replay, and its text (profile).
use Rattle.std.specs.Prelude.{ℕ, List, ◌++◌, codes}
use Rattle.std.specs.Fmt.{decimal}
use Rattle.script_input.specs.Faults.{line_fault_text}
use Rattle.script_input.specs.declared.script_fault.ScriptFault.{ScriptFault}
use Rattle.script_input.specs.declared.script_fault.ScriptFault.TheVariants as script
use Rattle.script_input.specs.declared.input_fault.InputFault.{InputFault}
use Rattle.script_input.specs.declared.input_fault.InputFault.TheVariants as input
use Rattle.script_input.specs.declared.replay_fault.ReplayFault.{ReplayFault}
use Rattle.script_input.specs.declared.replay_fault.ReplayFault.TheVariants.{Line, NoMemory, Read, Write}

-- a script's fault, as a replay answers it
abbrev pub of_script : ScriptFault → ReplayFault
of_script (script.Line number what) = Line number what
of_script script.NoMemory = NoMemory

-- so a fault of its input
abbrev pub of_input : InputFault → ReplayFault
of_input input.Read = Read
of_input input.NoMemory = NoMemory

abbrev pub exit_status : ReplayFault → ℕ
exit_status (Line number what) = 2
exit_status NoMemory = 3
exit_status Read = 4
exit_status Write = 4

-- what a program writes of each
abbrev pub fault_text : ReplayFault → List ℕ
fault_text (Line number what) = codes "vtl: line " ++ decimal number ++ codes ": " ++ line_fault_text what
fault_text NoMemory = codes "vtl: want of memory"
fault_text Read = codes "vtl: device fault\nvtl: the script could not be read"
fault_text Write = codes "vtl: device fault\nvtl: the replies could not be written"
