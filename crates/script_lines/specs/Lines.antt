-- A line of a script for a library of a profile: an event, or nothing, or its first fault.
use Rattle.std.specs.Prelude.{ℕ, ◌==◌, nat_lt, List, [], ◌∷◌, length, slice_index, Option, Some, None, Result, Ok, Err, if◌then◌else◌, codes}
use Rattle.std.specs.Str.{bytes_eq}
use Rattle.std.specs.Option.{option_map}
use denote.Ref.{Bor}
use Rattle.script_lines.specs.declared.line.Words.{Words}
use Rattle.script_input.specs.declared.line_fault.LineFault.{LineFault}
use Rattle.script_input.specs.declared.line_fault.LineFault.TheVariants.{TooLong, WordCount}
use Rattle.target_core.specs.declared.event.Event.{Event}
use Rattle.target_core.specs.declared.event.Event.TheVariants as event
use Rattle.frames.specs.Limits.{command_data_limit}
use Rattle.scsi_cdb.specs.declared.profile.Profile.{Profile}
use Rattle.scsi_nexus.specs.declared.nexus.Nexus.{Nexus}
use Rattle.script_lines.specs.Limits.{line_limit}
use Rattle.script_lines.specs.Text.{pieces, pieces_after}
use Rattle.script_lines.specs.Words.{nexus_in, unit_in, hex_in}

-- an event, without where its bytes lie in memory
pub data Said : Type 0 where
  Command : Nexus → ℕ → List ℕ → List ℕ → Said
  Loss : Nexus → ℕ → Said
  Reset : ℕ → Said

abbrev pub said : Event → Said
said (event.Command nexus lun cdb bytes) = Command nexus lun cdb.items bytes.items
said (event.Loss nexus lun) = Loss nexus lun
said (event.Reset lun) = Reset lun

abbrev pub said_by : Option Event → Option Said
said_by None = None
said_by (Some e) = Some (said e)

-- the words of a command
pub record CommandWords : Type 0 where
  pub nexus : List ℕ
  pub lun : List ℕ
  pub cdb : List ℕ
  pub bytes : Option (List ℕ)

abbrev pub words_seen : Words → CommandWords
words_seen w = record { nexus = w.nexus.now; lun = w.lun.now; cdb = w.cdb.now; bytes = option_map (λ (b : Bor (List ℕ)). b.now) w.«data» }

-- SAS.PORT LUN CDB [DATA]
abbrev pub words_in : List (List ℕ) → Option CommandWords
words_in (nexus ∷ lun ∷ cdb ∷ []) = Some (record { nexus = nexus; lun = lun; cdb = cdb; bytes = None })
words_in (nexus ∷ lun ∷ cdb ∷ bytes ∷ []) = Some (record { nexus = nexus; lun = lun; cdb = cdb; bytes = Some bytes })
words_in _ = None

-- the words where the last of them, all that stands behind the third, is cut at its spaces
abbrev pub words_cut : Words → Option CommandWords
words_cut w = words_in (w.nexus.now ∷ w.lun.now ∷ w.cdb.now ∷ pieces_after 32 w.«data»)

-- the ? of the logic
infixl 10 ◌>>=◌
abbrev pub ◌>>=◌ : {A B : Type 0} → Result A LineFault → (A → Result B LineFault) → Result B LineFault
(Ok x) >>= f = f x
(Err e) >>= f = Err e

abbrev pub bytes_in : Profile → Option (List ℕ) → Result (List ℕ) LineFault
bytes_in profile None = Ok []
bytes_in profile (Some word) = hex_in (command_data_limit profile) word

-- the command of the words, tested in their order
abbrev pub command_in : Profile → Option CommandWords → Result Said LineFault
command_in profile None = Err WordCount
command_in profile (Some w) = do
  nexus ← nexus_in w.nexus
  lun ← unit_in w.lun
  cdb ← hex_in 16 w.cdb
  bytes ← bytes_in profile w.bytes
  Ok (Command nexus lun cdb bytes)

-- behind the word loss: SAS.PORT LUN
abbrev pub loss_in : List (List ℕ) → Result Said LineFault
loss_in (nexus_word ∷ lun_word ∷ []) = do
  nexus ← nexus_in nexus_word
  lun ← unit_in lun_word
  Ok (Loss nexus lun)
loss_in _ = Err WordCount

-- behind the word reset: LUN
abbrev pub sole_unit_in : List (List ℕ) → Result ℕ LineFault
sole_unit_in (lun_word ∷ []) = unit_in lun_word
sole_unit_in _ = Err WordCount

abbrev pub reset_in : List (List ℕ) → Result Said LineFault
reset_in words = do
  lun ← sole_unit_in words
  Ok (Reset lun)

-- behind the word loss, or behind reset
abbrev pub other_in : (first : List ℕ) → List (List ℕ) → Result Said LineFault
other_in first words = if bytes_eq first (codes "loss") then loss_in words else reset_in words

-- the first word, exactly loss or reset, fixes the form of the line
abbrev pub event_in : Profile → List (List ℕ) → Result Said LineFault
event_in profile [] = Err WordCount
event_in profile (first ∷ words) =
    if bytes_eq first (codes "loss") then loss_in words
    else if bytes_eq first (codes "reset") then reset_in words
    else command_in profile (words_in (first ∷ words))

abbrev pub some_said : {A : Type 0} → Result A LineFault → Result (Option A) LineFault
some_said read = read >>= λ e. Ok (Some e)

-- what a line says by its words: nothing, where it is empty or begins with #
abbrev pub line_by : {A : Type 0} → Profile → (List (List ℕ) → Result A LineFault) → List ℕ → Result (Option A) LineFault
line_by profile words_say line =
    if nat_lt (line_limit profile) (length line) then Err TooLong
    else if length line == 0 then Ok None
    else if slice_index line 0 == 35 then Ok None
    else some_said (words_say (pieces 32 line))

-- what a line of a replay's script says
unfoldable pub line_in : Profile → List ℕ → Result (Option Said) LineFault
line_in profile line = line_by profile (event_in profile) line
