-- A script that was run, and what was written of it.
use Rattle.std.specs.Prelude.{◌≡◌, ℕ, List, ◌++◌, Option, Ok, Err}
use Rattle.std.specs.Io.KnownBytes.{Appends}
use Rattle.scsi_cdb.specs.declared.profile.Profile.{Profile}
use Rattle.logical_unit.specs.UnitView.{UnitView}
use Rattle.judgement.specs.declared.reply.Reply.{Reply}
use Rattle.target_core.specs.Faults.{profile_in}
use Rattle.target_core.specs.Run.{Runs}
use Rattle.target_core.specs.declared.event.Event.{Event}
use Rattle.output_lines.specs.declared.audit_lines.Audit.{Audit}
use Rattle.output_lines.specs.declared.explained.Explanations.{Explanations}
use Rattle.script_input.specs.declared.line_fault.LineFault.{LineFault}
use Rattle.script_input.specs.declared.replay_fault.ReplayFault.{ReplayFault}
use Rattle.script_input.specs.declared.replay_fault.ReplayFault.TheVariants.{Line, NoMemory, Read, Write}
use Rattle.output_lines.specs.AuditLines.{audit_text}
use Rattle.script_input.specs.Input.{IsReadWhole}
use Rattle.script_lines.specs.Script.{saids, script_in}
use Rattle.replay.specs.Texts.{run_text}

-- the input was read whole, it is a script for the library, and its events were run
pub record HasRun (turns : ℕ) (left left' : Option (List ℕ)) (core core' : List UnitView) : Type 0 where
  pub input : List ℕ
  pub events : List Event
  pub replies : List Reply
  pub whole : IsReadWhole turns left left' input
  pub script : script_in (profile_in core) input ≡ Ok (saids events)
  pub run : Runs core events replies core'

-- and the lines of its replies were written, with their words by the library's profile where they are wanted, and then those of the records that the units have
-- now, where they are wanted
pub record Replays (turns : ℕ) (left left' : Option (List ℕ)) (core core' : List UnitView) (explanations : Explanations) (audit : Audit) (written written' : Option (List ℕ)) : Type 0 where
  pub ran : HasRun turns left left' core core'
  pub lines : Appends written written' (run_text (profile_in core) explanations ran.events ran.replies ++ audit_text audit core')

-- the input was read whole, and its line n is the first with a fault of a script for a library of a profile
pub record Refuses (profile : Profile) (turns : ℕ) (left left' : Option (List ℕ)) (n : ℕ) (fault : LineFault) : Type 0 where
  pub input : List ℕ
  pub whole : IsReadWhole turns left left' input
  pub script : script_in profile input ≡ Err (n, fault)

-- the faults that come before the run, and those that come before the first byte is written
abbrev pub IsBeforeRun : ReplayFault → Type 0
IsBeforeRun (Line number what) = Unit {0}
IsBeforeRun NoMemory = ⊥
IsBeforeRun Read = Unit {0}
IsBeforeRun Write = ⊥

abbrev pub IsBeforeOutput : ReplayFault → Type 0
IsBeforeOutput (Line number what) = Unit {0}
IsBeforeOutput NoMemory = Unit {0}
IsBeforeOutput Read = Unit {0}
IsBeforeOutput Write = ⊥
