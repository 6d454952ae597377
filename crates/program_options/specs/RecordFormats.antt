-- In which form the lines of records are written into a file (profile).
use Rattle.std.specs.Prelude.{ℕ, List, codes, Result, Ok, Err, if◌then◌else◌}
use Rattle.std.specs.Str.{bytes_eq}
use Rattle.program_options.specs.declared.option_fault.OptionFault.{OptionFault}
use Rattle.program_options.specs.declared.option_fault.OptionFault.TheVariants.{BadFormat}
use Rattle.program_options.specs.declared.record_format.RecordFormat.{RecordFormat}
use Rattle.program_options.specs.declared.record_format.RecordFormat.TheVariants.{Json, Text}

abbrev pub format_text : RecordFormat → List ℕ
format_text Json = codes "json"
format_text Text = codes "text"

abbrev pub format_in : List ℕ → Result RecordFormat OptionFault
format_in text =
    if bytes_eq text (codes "json") then Ok Json
    else if bytes_eq text (codes "text") then Ok Text
    else Err BadFormat
