-- The REPORTING OPTIONS field of REPORT SUPPORTED OPERATION CODES (SPC-4, "REPORT SUPPORTED OPERATION CODES command").
use Rattle.std.specs.Prelude.{ℕ, ◌==◌, Option, Some, None, if◌then◌else◌}
use Rattle.supported_commands.specs.declared.options.ReportingOptions.{ReportingOptions}
use Rattle.supported_commands.specs.declared.options.ReportingOptions.TheVariants.{All, OneWithoutServiceActions, OneWithServiceAction, Either}

-- the options by the bits of their field: what is above three is reserved
abbrev pub options_at : (bits : ℕ) → Option ReportingOptions
options_at bits =
    if bits == 0b000 then Some All
    else if bits == 0b001 then Some OneWithoutServiceActions
    else if bits == 0b010 then Some OneWithServiceAction
    else if bits == 0b011 then Some Either
    else None
