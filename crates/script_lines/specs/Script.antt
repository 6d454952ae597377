-- A script for a library of a profile: the events or requests of its lines, or its first line with a fault.
use Rattle.std.specs.Prelude.{ℕ, ◌+◌, ◌≡◌, List, [], ◌∷◌, ◌++◌, map, Option, Some, None, Result, Ok, Err}
use Rattle.std.specs.Global.{Vec}
use Rattle.scsi_cdb.specs.declared.profile.Profile.{Profile}
use Rattle.script_input.specs.declared.line_fault.LineFault.{LineFault}
use Rattle.script_input.specs.declared.script_fault.ScriptFault.{ScriptFault}
use Rattle.script_input.specs.declared.script_fault.ScriptFault.TheVariants.{Line, NoMemory}
use Rattle.target_core.specs.declared.event.Event.{Event}
use Rattle.script_lines.specs.declared.client_request.ClientRequest.{ClientRequest}
use Rattle.script_lines.specs.Lines.{Said, said, line_in}
use Rattle.script_lines.specs.Requests.{ClientRequestValue, request_value, request_line_in}
use Rattle.script_lines.specs.Text.{pieces}

abbrev pub saids : List Event → List Said
saids events = map said events

abbrev pub request_values : List ClientRequest → List ClientRequestValue
request_values requests = map request_value requests

-- what some lines say, and then what the lines behind them say
abbrev pub with_front : {A : Type 0} → List A → Result (List A) (ℕ × LineFault) → Result (List A) (ℕ × LineFault)
with_front front (Ok others) = Ok (front ++ others)
with_front front (Err e) = Err e

abbrev pub by_line : {A : Type 0} → ℕ → Result (Option A) LineFault → Result (List A) (ℕ × LineFault) → Result (List A) (ℕ × LineFault)
by_line n (Err fault) others = Err (n, fault)
by_line n (Ok None) others = others
by_line n (Ok (Some said)) others = with_front (said ∷ []) others

-- what lines say one by one, the first of them line n, or the number of the first line with a fault and that fault
abbrev pub lines_in : {A : Type 0} → (List ℕ → Result (Option A) LineFault) → ℕ → List (List ℕ) → Result (List A) (ℕ × LineFault)
lines_in line_says n [] = Ok []
lines_in line_says n (line ∷ lines) = by_line n (line_says line) (lines_in line_says (n + 1) lines)

-- the events of lines
unfoldable pub events_in : Profile → ℕ → List (List ℕ) → Result (List Said) (ℕ × LineFault)
events_in profile n lines = lines_in (line_in profile) n lines

-- a line ends at a line feed, which the last one may lack
abbrev pub script_in : Profile → List ℕ → Result (List Said) (ℕ × LineFault)
script_in profile text = events_in profile 1 (pieces 10 text)

-- a host's script
abbrev pub requests_in : Profile → List ℕ → Result (List ClientRequestValue) (ℕ × LineFault)
requests_in profile text = lines_in (request_line_in profile) 1 (pieces 10 text)

-- what a line says, where it says something, was added
abbrev pub TakesLine : {A : Type 0} → List A → List A → Result (Option A) LineFault → Type 0
TakesLine old new (Ok None) = new ≡ old
TakesLine old new (Ok (Some said)) = new ≡ old ++ said ∷ []
TakesLine old new (Err fault) = ⊥

-- line n has the fault, unless memory ran out
abbrev pub FailsAt : {A : Type 0} → ℕ → ScriptFault → Result (Option A) LineFault → Type 0
FailsAt n (Line number what) read = (number ≡ n) × (read ≡ Err what)
FailsAt n NoMemory read = Unit {0}

-- what a function answered is what was read, unless memory ran out
abbrev pub ScriptFails : {A : Type 0} → ScriptFault → Result (List A) (ℕ × LineFault) → Type 0
ScriptFails (Line number what) read = read ≡ Err (number, what)
ScriptFails NoMemory read = Unit {0}

abbrev pub GivesScript : Result (List Event) ScriptFault → Result (List Said) (ℕ × LineFault) → Type 0
GivesScript (Ok events) read = read ≡ Ok (saids events)
GivesScript (Err fault) read = ScriptFails fault read

abbrev pub GivesRequests : Result (Vec ClientRequest) ScriptFault → Result (List ClientRequestValue) (ℕ × LineFault) → Type 0
GivesRequests (Ok requests) read = read ≡ Ok (request_values requests.items)
GivesRequests (Err fault) read = ScriptFails fault read
