-- The words of a script's line: what each says, or its fault.
use Rattle.std.specs.Prelude.{ℕ, ◌+◌, ◌-◌, ◌*◌, ◌/◌, ◌%◌, ◌≡◌, ◌==◌, ◌&&◌, not, nat_lt, nat_le, Bool, List, [], ◌∷◌, ◌++◌, length, take, slice_index, Option, Some, None, Result, Ok, Err, if◌then◌else◌}
use Rattle.std.specs.Int.{w64, from_be_bytes}
use Rattle.hex.specs.Hex.{decode_of}
use Rattle.hex.specs.declared.error.FromHexError.{FromHexError}
use Rattle.script_lines.specs.declared.line.LineError.{LineError}
use Rattle.script_lines.specs.declared.line.LineError.TheVariants as error
use Rattle.script_input.specs.declared.line_fault.LineFault.{LineFault}
use Rattle.script_input.specs.declared.line_fault.LineFault.TheVariants.{BadNexus, BadUnit, BadHex}
use Rattle.scsi_nexus.specs.declared.nexus.Nexus.{Nexus}

-- what a function answered, seen by view, is what was read, unless memory ran out
abbrev pub Fails : {Y : Type 0} → LineError → Result Y LineFault → Type 0
Fails error.NoMemory read = Unit {0}
Fails (error.Fault fault) read = read ≡ Err fault

abbrev pub Gives : {X Y : Type 0} → (X → Y) → Result X LineError → Result Y LineFault → Type 0
Gives view (Ok x) read = read ≡ Ok (view x)
Gives view (Err e) read = Fails e read

-- the value of a hexadecimal digit, by its code: 30h to 39h, and 41h or 61h onwards for the letters
abbrev pub digit_value : ℕ → ℕ
digit_value digit = (digit % 16 + digit / 64 * 9) % 16

-- the bytes of hexadecimal text
abbrev pub hex_bytes : Result (List ℕ) FromHexError → Option (List ℕ)
hex_bytes (Ok bytes) = Some bytes
hex_bytes (Err e) = None

-- whether a number has four bits
abbrev pub is_small : ℕ → Bool
is_small n = nat_lt n 16

-- some bytes with others behind them, if there are any
abbrev pub behind : List ℕ → Option (List ℕ) → Option (List ℕ)
behind front None = None
behind front (Some bytes) = Some (front ++ bytes)

abbrev pub nexus_at : Option (List ℕ) → ℕ → Result Nexus LineFault
nexus_at None port = Err BadNexus
nexus_at (Some sas) port = Ok (record { sas = from_be_bytes w64 sas; port = port })

-- the digits of the target ports
abbrev pub is_port : ℕ → Bool
is_port c = nat_le 49 c && nat_le c 52

-- SAS.PORT: 16 hexadecimal digits, a dot, the port
unfoldable pub nexus_in : List ℕ → Result Nexus LineFault
nexus_in word =
    if (length word == 18) && (slice_index word 16 == 46) && is_port (slice_index word 17)
    then nexus_at (hex_bytes (decode_of (take 16 word))) (slice_index word 17 - 48)
    else Err BadNexus

abbrev pub is_digit : ℕ → Bool
is_digit c = nat_le 48 c && nat_le c 57

abbrev pub small : ℕ → Result ℕ LineFault
small n = if nat_lt n 256 then Ok n else Err BadUnit

-- LUN: 0 to 255 in decimal, with no leading zero
unfoldable pub unit_in : List ℕ → Result ℕ LineFault
unit_in (a ∷ []) = if is_digit a then Ok (a - 48) else Err BadUnit
unit_in (a ∷ b ∷ []) =
    if is_digit a && is_digit b && not (a == 48) then Ok ((a - 48) * 10 + (b - 48)) else Err BadUnit
unit_in (a ∷ b ∷ c ∷ []) =
    if is_digit a && is_digit b && is_digit c && not (a == 48)
    then small ((a - 48) * 100 + (b - 48) * 10 + (c - 48))
    else Err BadUnit
unit_in _ = Err BadUnit

abbrev pub within : ℕ → Option (List ℕ) → Result (List ℕ) LineFault
within limit None = Err BadHex
within limit (Some bytes) = if nat_lt 0 (length bytes) && nat_le (length bytes) limit then Ok bytes else Err BadHex

-- CDB and DATA: 1 to limit bytes in hexadecimal
unfoldable pub hex_in : ℕ → List ℕ → Result (List ℕ) LineFault
hex_in limit word = within limit (hex_bytes (decode_of word))
