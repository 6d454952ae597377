-- The exit status of each fault of a host's session, and its text (profile).
use Rattle.std.specs.Prelude.{ℕ, List, ◌++◌, codes}
use Rattle.std.specs.Fmt.{decimal}
use Rattle.scsi_nexus.specs.Text.{nexus_text}
use Rattle.script_input.specs.Faults.{line_fault_text}
use Rattle.script_input.specs.declared.script_fault.ScriptFault.{ScriptFault}
use Rattle.script_input.specs.declared.script_fault.ScriptFault.TheVariants as script
use Rattle.client_session.specs.declared.client_session_fault.ClientSessionFault.{ClientSessionFault}
use Rattle.client_session.specs.declared.client_session_fault.ClientSessionFault.TheVariants.{Line, Refused, BadReply, Read, Write, NoMemory}

-- a script's fault, as a session answers it
abbrev pub of_script : ScriptFault → ClientSessionFault
of_script (script.Line number what) = Line number what
of_script script.NoMemory = NoMemory

abbrev pub exit_status : ClientSessionFault → ℕ
exit_status (Line number what) = 2
exit_status NoMemory = 3
exit_status _ = 4

-- the lines that a program writes of each
abbrev pub fault_text : ClientSessionFault → List ℕ
fault_text (Line number what) = codes "vtl: line " ++ decimal number ++ codes ": " ++ line_fault_text what
fault_text NoMemory = codes "vtl: want of memory"
fault_text (Refused nexus) = codes "vtl: device fault\nvtl: " ++ nexus_text nexus ++ codes " has a session already"
fault_text BadReply = codes "vtl: device fault\nvtl: bad reply"
fault_text Read = codes "vtl: device fault\nvtl: a read failed"
fault_text Write = codes "vtl: device fault\nvtl: a write failed"
