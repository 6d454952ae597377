-- What judgement finds of a MOVE MEDIUM at a changer: an answer, or that its drives decide, where the device alone would answer 44h/00h.
use Rattle.std.specs.Prelude.{◌≡◌, ℕ, Bool, false, List, Result, Ok}
use Rattle.scsi_nexus.specs.declared.nexus.Nexus.{Nexus}
use Rattle.scsi_sense.specs.declared.condition.Condition.{Condition}
use Rattle.scsi_sense.specs.declared.condition.Condition.TheVariants.{InternalTargetFailure}
use Rattle.device_server.specs.Failures.{leaves_to_drives}
use Rattle.device_server.specs.View.{DeviceView}
use Rattle.device_server.specs.Volumes.{is_move}
use Rattle.judgement.specs.declared.command.Command.{Command}
use Rattle.judgement.specs.declared.command.Command.TheVariants.{Device}
use Rattle.judgement.specs.UnitStateView.{UnitStateView}
use Rattle.judgement.specs.Judge.{judged_as}
use Rattle.judgement.specs.Replies.{check}
use Rattle.judgement.specs.Standing.{met}
use Rattle.logical_unit.specs.declared.move_finding.MoveFinding.{MoveFinding}
use Rattle.logical_unit.specs.declared.move_finding.MoveFinding.TheVariants.{Ended, Left}
use Rattle.logical_unit.specs.Move.{is_left}

-- whether bytes decode to MOVE MEDIUM
abbrev pub spells_move : Result Command Condition → Bool
spells_move (Ok (Device request)) = is_move request
spells_move decoded = false

-- whether a device leaves a command to the drives
abbrev pub leaves : DeviceView → Command → Bool
leaves device (Device request) = leaves_to_drives device request
leaves device command = false

-- by the device and by what the unit keeps, before and after: what is answered isn't 44h/00h, which the device alone would answer of what is left
abbrev pub FindsMove : (device after : DeviceView) → (old new : UnitStateView) → Nexus → Result Command Condition → (bytes : List ℕ) →
    MoveFinding → Type 0
FindsMove device after old new n decoded bytes (Ended decision reply) =
    (is_left reply.sense ≡ false) × (judged_as (met device old n) n decoded bytes ≡
    (record { device = after; state = new }, decision, reply))
FindsMove device after old new n decoded bytes (Left decision) =
    judged_as (met device old n) n decoded bytes ≡ (record { device = after; state = new }, decision, check InternalTargetFailure)
