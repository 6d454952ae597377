-- The mode parameters of a drive that MODE SELECT can change (SSC-4, "Mode parameters").
use Rattle.std.specs.Prelude.{ℕ, Bool, true}
use Rattle.mode_pages.specs.declared.values.ModeValues.{ModeValues}

abbrev pub mode_values : (block_length : ℕ) → (compression : Bool) → ModeValues
mode_values block_length compression = record { block_length = block_length; compression = compression }

-- after a reset blocks have any length, and compression is on
abbrev pub default_values : ModeValues
default_values = mode_values 0 true
