-- A line of a host's script for a library of a profile: a request, or nothing, or its first fault.
use Rattle.std.specs.Prelude.{ℕ, ◌≤◌, ◌<◌, List, [], ◌∷◌, length, Option, Some, None, Result, Ok, Err, if◌then◌else◌, codes}
use Rattle.std.specs.Str.{bytes_eq}
use Rattle.scsi_cdb.specs.declared.profile.Profile.{Profile}
use Rattle.frames.specs.Limits.{command_data_limit}
use Rattle.script_input.specs.declared.line_fault.LineFault.{LineFault}
use Rattle.script_input.specs.declared.line_fault.LineFault.TheVariants.{WordCount}
use Rattle.script_lines.specs.declared.client_request.ClientRequest.{ClientRequest}
use Rattle.script_lines.specs.declared.client_request.ClientRequest.TheVariants as request
use Rattle.script_lines.specs.Words.{unit_in, hex_in}
use Rattle.script_lines.specs.Lines.{CommandWords, words_in, bytes_in, sole_unit_in, line_by, ◌>>=◌}

-- a request, without where its bytes lie in memory
pub data ClientRequestValue : Type 0 where
  Command : (lun : ℕ) → (cdb bytes : List ℕ) → ClientRequestValue
  Reset : (lun : ℕ) → ClientRequestValue

abbrev pub request_value : ClientRequest → ClientRequestValue
request_value (request.Command lun cdb bytes) = Command lun cdb.items bytes.items
request_value (request.Reset lun) = Reset lun

abbrev pub request_value_by : Option ClientRequest → Option ClientRequestValue
request_value_by None = None
request_value_by (Some r) = Some (request_value r)

-- the command of the words, tested in their order, whatever stands for a nexus
abbrev pub command_request_in : Profile → Option CommandWords → Result ClientRequestValue LineFault
command_request_in profile None = Err WordCount
command_request_in profile (Some w) = do
  lun ← unit_in w.lun
  cdb ← hex_in 16 w.cdb
  bytes ← bytes_in profile w.bytes
  Ok (Command lun cdb bytes)

-- behind the word reset: LUN
abbrev pub reset_request_in : List (List ℕ) → Result ClientRequestValue LineFault
reset_request_in words = do
  lun ← sole_unit_in words
  Ok (Reset lun)

-- LUN CDB [DATA], which is the line of a replay without its nexus; or, where the first word is exactly reset, LUN behind it
abbrev pub request_in : Profile → List (List ℕ) → Result ClientRequestValue LineFault
request_in profile [] = Err WordCount
request_in profile (first ∷ words) =
    if bytes_eq first (codes "reset") then reset_request_in words
    else command_request_in profile (words_in ([] ∷ first ∷ words))

-- what a line of a host's script says
unfoldable pub request_line_in : Profile → List ℕ → Result (Option ClientRequestValue) LineFault
request_line_in profile line = line_by profile (request_in profile) line

-- a CDB of 1 to 16 bytes, and as many bytes of data at most as a frame has room for behind any CDB
abbrev pub IsWithinLimits : Profile → ClientRequestValue → Type 0
IsWithinLimits profile (Command lun cdb bytes) = (0 < length cdb) × (length cdb ≤ 16) × (length bytes ≤ command_data_limit profile)
IsWithinLimits profile (Reset lun) = Unit {0}
