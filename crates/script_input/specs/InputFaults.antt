-- The exit status of a program that ends by a fault of its input, and what it says (profile).
use Rattle.std.specs.Prelude.{ℕ, List, codes}
use Rattle.script_input.specs.declared.input_fault.InputFault.{InputFault}
use Rattle.script_input.specs.declared.input_fault.InputFault.TheVariants.{Read, NoMemory}

abbrev pub exit_status : InputFault → ℕ
exit_status Read = 4
exit_status NoMemory = 3

abbrev pub fault_text : InputFault → List ℕ
fault_text Read = codes "vtl: device fault\nvtl: the script could not be read"
fault_text NoMemory = codes "vtl: want of memory"
