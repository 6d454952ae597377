-- What is said of a file into which records can't be written (profile).
use Rattle.std.specs.Prelude.{ℕ, List, [], ◌++◌, codes, string_bytes}
use Rattle.record_file.specs.declared.file_fault.FileFault.{FileFault}
use Rattle.record_file.specs.declared.file_fault.WhyNoFile.{WhyNoFile}
use Rattle.record_file.specs.declared.file_fault.WhyNoFile.TheVariants.{IsDirectory, NoDirectory, Refused}

abbrev pub why_text : WhyNoFile → List ℕ
why_text IsDirectory = codes ": it is a directory"
why_text NoDirectory = codes ": its directory is not there"
why_text Refused = []

abbrev pub file_fault_text : FileFault → List ℕ
file_fault_text fault = codes "vtl: device fault\nvtl: cannot write " ++ (string_bytes fault.path ++ why_text fault.why)
