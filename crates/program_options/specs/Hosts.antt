-- Which host a client is (profile).
use Rattle.std.specs.Prelude.{ℕ, ◌==◌, List, length, Option, Some, None, Result, Ok, Err, if◌then◌else◌}
use Rattle.std.specs.Int.{w64, from_be_bytes}
use Rattle.hex.specs.Hex.{decode_of}
use Rattle.hex.specs.declared.error.FromHexError.{FromHexError}
use Rattle.scsi_nexus.specs.declared.nexus.Nexus.{Nexus}
use Rattle.program_options.specs.declared.option_fault.OptionFault.{OptionFault}
use Rattle.program_options.specs.declared.option_fault.OptionFault.TheVariants.{BadNexus}

-- the bytes of hexadecimal text, the highest first, as a number
abbrev pub number_of : Result (List ℕ) FromHexError → Option ℕ
number_of (Ok bytes) = Some (from_be_bytes w64 bytes)
number_of (Err e) = None

-- a SAS address is 16 hexadecimal digits
abbrev pub sas_in : List ℕ → Option ℕ
sas_in digits = if length digits == 16 then number_of (decode_of digits) else None

abbrev pub nexus_by : Option ℕ → ℕ → Result Nexus OptionFault
nexus_by None port = Err BadNexus
nexus_by (Some sas) port = Ok (record { sas = sas; port = port })
