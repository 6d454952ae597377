-- How a device ends a command.
use Rattle.std.specs.Prelude.{ℕ, Bool, if◌then◌else◌, List, [], take, Option, Some, None, Result, Ok, Err}
use Rattle.scsi_sense.specs.declared.condition.Condition.{Condition}
use Rattle.scsi_sense.specs.declared.sense.Sense.{Sense}
use Rattle.scsi_sense.specs.declared.status.Status.TheVariants.{Good, CheckCondition}
use Rattle.scsi_sense.specs.Conditions.{sense_for}
use Rattle.unit_attention.specs.declared.kind.Kind.{Kind}
use Rattle.unit_attention.specs.declared.kind.Kind.TheVariants.{ModeParametersChanged}
use Rattle.device_server.specs.declared.outcome.Outcome.{Outcome}

-- GOOD, with data
abbrev pub done : List ℕ → Outcome
done payload = record { status = Good; sense = None; payload = payload; told = None }

-- what a MODE SELECT tells every other nexus: that it changed the mode parameters, if it did
abbrev pub told_of_mode : (mode_changed : Bool) → Option Kind
told_of_mode mode_changed = if mode_changed then Some ModeParametersChanged else None

-- GOOD, of a MODE SELECT that changed the mode parameters, or set them as they were
abbrev pub set : (mode_changed : Bool) → Outcome
set mode_changed = record { status = Good; sense = None; payload = []; told = told_of_mode mode_changed }

-- GOOD without data, with what every other nexus is told
abbrev pub tells : Option Kind → Outcome
tells told = record { status = Good; sense = None; payload = []; told = told }

-- CHECK CONDITION with this sense data, and the data that was read before
abbrev pub ended : Sense → List ℕ → Outcome
ended sense payload = record { status = CheckCondition; sense = Some sense; payload = payload; told = None }

-- CHECK CONDITION with the sense of a condition
abbrev pub refused : Condition → Outcome
refused condition = ended (sense_for condition) []

-- GOOD with the data that an allocation length leaves, or a refusal
abbrev pub answers : (allocation_length : ℕ) → Result (List ℕ) Condition → Outcome
answers allocation_length (Ok bytes) = done (take allocation_length bytes)
answers allocation_length (Err condition) = refused condition
