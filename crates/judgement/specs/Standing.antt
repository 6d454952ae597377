-- What stands before a command's own rules: an attention that waits for its sender, or a conflict by the reservation check (SPC-4, "Unit
-- attention condition", "Reservations"). The device isn't asked, so it may be any.
use Rattle.std.specs.Prelude.{◌≡◌, ℕ, Bool, true, false, ◌&&◌, List, is_none}
use Rattle.scsi_nexus.specs.declared.nexus.Nexus.{Nexus}
use Rattle.unit_attention.specs.Queues.{first_other_of}
use Rattle.permit_tables.specs.declared.cell.Cell.{Cell}
use Rattle.pr_core.specs.declared.verdict.Verdict.TheVariants.{Allowed}
use Rattle.device_server.specs.View.{DeviceView}
use Rattle.judgement.specs.declared.command.Command.{Command}
use Rattle.judgement.specs.declared.decision.Decision.{Decision}
use Rattle.judgement.specs.declared.reply.Reply.{Reply}
use Rattle.judgement.specs.declared.standing.Standing.{Standing}
use Rattle.judgement.specs.declared.standing.Standing.TheVariants.{Ended, LetThrough}
use Rattle.judgement.specs.Commands.{class_of_command}
use Rattle.judgement.specs.JudgedUnit.{JudgedUnit}
use Rattle.judgement.specs.UnitStateView.{UnitStateView}
use Rattle.judgement.specs.UnitState.{after_contact}
use Rattle.judgement.specs.Readings.{verdict_of}
use Rattle.judgement.specs.Judge.{at_cell, carried_out, commanded, is_allowed_by, is_carried_out, waiting}

-- whether a command that the reservation check allows comes to its own rules
abbrev pub is_clear : JudgedUnit → Nexus → Command → Bool
is_clear u n command = is_none (waiting (class_of_command command) (first_other_of u.state.slots n))

-- whether one that comes to the reservation check does
abbrev pub is_let_in : JudgedUnit → Nexus → Command → Bool
is_let_in u n command = is_allowed_by (verdict_of u.state.reservations n command) && is_clear u n command

-- what a unit keeps once a sender made contact, with a device
abbrev pub met : DeviceView → UnitStateView → Nexus → JudgedUnit
met device state n = record { device = device; state = after_contact state n }

-- A command that comes to a stage ends there or behind it, before its own rules, whatever its device is;
pub record EndsBefore (stage : JudgedUnit → Nexus → Command → List ℕ → JudgedUnit × Decision × Reply)
    (comes : JudgedUnit → Nexus → Command → Bool)
    (old new : UnitStateView) (n : Nexus) (c : Command) (decision : Decision) (reply : Reply) : Type 0 where
  pub barred : (device : DeviceView) → comes (met device old n) n c ≡ false
  pub ended : (device : DeviceView) (bytes : List ℕ) → stage (met device old n) n c bytes ≡
      (record { device = device; state = new }, decision, reply)

-- or it comes to its own rules, in its cell of the permission table, with nothing changed yet
pub record ComesThrough (stage : JudgedUnit → Nexus → Command → List ℕ → JudgedUnit × Decision × Reply)
    (comes : JudgedUnit → Nexus → Command → Bool)
    (old new : UnitStateView) (n : Nexus) (c : Command) (at : Cell) : Type 0 where
  pub same : new ≡ old
  pub allowed : verdict_of old.reservations n c ≡ Allowed
  pub clear : (device : DeviceView) → comes (met device old n) n c ≡ true
  pub carried : (device : DeviceView) (bytes : List ℕ) → stage (met device old n) n c bytes ≡ at_cell at
      (carried_out (met device old n) n c bytes)

-- by the judgement from that stage on, and by whether it comes to its own rules
abbrev pub StandsBy : (stage : JudgedUnit → Nexus → Command → List ℕ → JudgedUnit × Decision × Reply) →
    (comes : JudgedUnit → Nexus → Command → Bool)
    → (old new : UnitStateView) → Nexus → Command → Standing → Type 0
StandsBy stage comes old new n c (Ended decision reply) = EndsBefore stage comes old new n c decision reply
StandsBy stage comes old new n c (LetThrough at) = ComesThrough stage comes old new n c at

-- of a decoded command, which comes to the first of these stages
abbrev pub StandsBefore : (old new : UnitStateView) → Nexus → Command → Standing → Type 0
StandsBefore old new n c standing = StandsBy commanded is_carried_out old new n c standing
