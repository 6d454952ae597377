-- Worked rows: what a replay of one reset writes, and what each fault says.
use Rattle.std.specs.Prelude.{◌≡◌, ℕ, List, [], ◌∷◌, ◌++◌, Some, None, codes}
use Rattle.scsi_cdb.specs.declared.profile.Profile.TheVariants.{Spec}
use Rattle.scsi_sense.specs.declared.status.Status.TheVariants.{Good}
use Rattle.tape_medium.specs.Elements.{empty_elements}
use Rattle.audit_log.specs.declared.act.Act.TheVariants.{Reset}
use Rattle.audit_log.specs.declared.record.Record.{Record}
use Rattle.audit_log.specs.declared.stage.Stage.TheVariants.{Device}
use Rattle.device_server.specs.Drive.{empty_drive}
use Rattle.device_server.specs.HostChanger.{spec_changer}
use Rattle.device_server.specs.View.{Drive, Changer}
use Rattle.logical_unit.specs.Step.{made}
use Rattle.logical_unit.specs.UnitView.{UnitView}
use Rattle.output_lines.specs.declared.audit_lines.Audit.{Audit}
use Rattle.output_lines.specs.declared.audit_lines.Audit.TheVariants.{Off, Lines}
use Rattle.output_lines.specs.declared.explained.Explanations.{Explanations}
use Rattle.output_lines.specs.declared.explained.Explanations.TheVariants as words
use Rattle.script_input.specs.declared.line_fault.LineFault.TheVariants.{BadNexus, BadUnit, BadHex}
use Rattle.script_input.specs.declared.replay_fault.ReplayFault.TheVariants.{Line, NoMemory, Read, Write}
use Rattle.script_input.specs.ReplayFaults.{exit_status, fault_text}
use Rattle.replay.specs.Replay.{IsBeforeRun, IsBeforeOutput, Refuses, Replays}

pub record FaultsTold : Type 0 where
  pub line_status : exit_status (Line 42 BadNexus) ≡ 2
  pub memory_status : exit_status NoMemory ≡ 3
  pub read_status : exit_status Read ≡ 4
  pub write_status : exit_status Write ≡ 4
  pub line : fault_text (Line 42 BadNexus) ≡ codes "vtl: line 42: bad nexus"
  pub memory : fault_text NoMemory ≡ codes "vtl: want of memory"
  pub read : fault_text Read ≡ codes "vtl: device fault\nvtl: the script could not be read"
  pub write : fault_text Write ≡ codes "vtl: device fault\nvtl: the replies could not be written"

-- a faulty line and a fault of reading come before anything has run; only a fault of writing may come behind a written byte
pub record FaultsInOrder : Type 0 where
  pub line_before_run : IsBeforeRun (Line 1 BadHex)
  pub read_before_run : IsBeforeRun Read
  pub memory_at_any_time : ¬ IsBeforeRun NoMemory
  pub write_after_run : ¬ IsBeforeRun Write
  pub line_before_output : IsBeforeOutput (Line 1 BadHex)
  pub memory_before_output : IsBeforeOutput NoMemory
  pub read_before_output : IsBeforeOutput Read
  pub write_is_output : ¬ IsBeforeOutput Write

-- a target with one drive, whose changer has these records
abbrev pub target : List Record → List UnitView
target records =
    let changer = made (Changer (spec_changer (empty_elements 1 0 8))) 0 2 0 in
    record changer { records = records } ∷ made (Drive empty_drive) 1 2 0 ∷ []

-- a reset of the changer, as its record 1
abbrev pub reset : Record
reset = record { number = 1; nexus = None; act = Reset; stage = Device; cell = None; rule = None; status = Good; sense = None; told = None }

-- a line and its line feed
abbrev pub line : List ℕ → List ℕ
line text = text ++ 10 ∷ []

-- the script of one line, `reset 0`
abbrev pub ReplaysReset : Explanations → Audit → (written : List ℕ) → Type 0
ReplaysReset explanations audit written =
    Replays 2 (Some (line (codes "reset 0"))) (Some []) (target []) (target (reset ∷ [])) explanations audit (Some (codes "before")) (Some (codes "before" ++ written))

pub record ReplaysRun : Type 0 where
  pub replies : ReplaysReset words.Off Off (line (codes "00 - -"))
  pub explained : ReplaysReset words.On Off (line (codes "00 - -") ++ line (codes "# GOOD"))
  pub records : ReplaysReset words.Off Lines (line (codes "00 - -") ++ line (codes "1 - RESET 6 - - 00"))
  pub refused : Refuses Spec 2 (Some (line (codes "reset 0") ++ codes "reset x")) (Some []) 2 BadUnit
