-- What is said of lines that aren't of records, and of what ends the work (profile).
use Rattle.std.specs.Prelude.{ℕ, List, ◌++◌, codes, string_bytes}
use Rattle.std.specs.Fmt.{decimal}
use Rattle.record_words.specs.declared.line_fault.LineFault.{LineFault}
use Rattle.record_words.specs.declared.line_fault.LineFault.TheVariants as line
use Rattle.record_words.specs.declared.explain_fault.ExplainFault.{ExplainFault}
use Rattle.record_words.specs.declared.explain_fault.ExplainFault.TheVariants as explain

abbrev pub line_fault_text : LineFault → List ℕ
line_fault_text line.NoObject = codes "it is no object of JSON"
line_fault_text line.TooLong = codes "it is longer than the line of any record"
line_fault_text line.CutOff = codes "it does not end in a line feed"
line_fault_text (line.BadValue key) = codes "no record has such a value at " ++ key.now
line_fault_text line.NoMemory = codes "want of memory"

abbrev pub explain_status : ExplainFault → ℕ
explain_status explain.Read = 4
explain_status (explain.CannotRead path) = 4
explain_status explain.Write = 4
explain_status (explain.Refused count) = 2
explain_status explain.NoMemory = 3

abbrev pub explain_text : ExplainFault → List ℕ
explain_text explain.Read = codes "vtl: device fault\nvtl: the lines could not be read"
explain_text (explain.CannotRead path) = codes "vtl: device fault\nvtl: cannot read " ++ string_bytes path
explain_text explain.Write = codes "vtl: device fault\nvtl: the words could not be written"
explain_text (explain.Refused count) = codes "vtl: lines that are not of records: " ++ decimal count
explain_text explain.NoMemory = codes "vtl: want of memory"
