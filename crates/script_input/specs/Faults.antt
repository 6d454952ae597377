-- The faults of a script in words (profile).
use Rattle.std.specs.Prelude.{ℕ, List, ◌++◌, codes}
use Rattle.std.specs.Fmt.{decimal}
use Rattle.script_input.specs.declared.line_fault.LineFault.{LineFault}
use Rattle.script_input.specs.declared.line_fault.LineFault.TheVariants.{TooLong, WordCount, BadNexus, BadUnit, BadHex}
use Rattle.script_input.specs.declared.script_fault.ScriptFault.{ScriptFault}
use Rattle.script_input.specs.declared.script_fault.ScriptFault.TheVariants.{Line, NoMemory}

abbrev pub line_fault_text : LineFault → List ℕ
line_fault_text TooLong = codes "too long"
line_fault_text WordCount = codes "word count"
line_fault_text BadNexus = codes "bad nexus"
line_fault_text BadUnit = codes "bad unit"
line_fault_text BadHex = codes "bad hex"

-- the number of the line in decimal, and its fault
abbrev pub script_fault_text : ScriptFault → List ℕ
script_fault_text (Line number what) = codes "line " ++ decimal number ++ codes ": " ++ line_fault_text what
script_fault_text NoMemory = codes "want of memory"
