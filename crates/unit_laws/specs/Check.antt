-- What the reservation check decides: a command that comes to it is carried out by its own rules exactly if the cell of the
-- permission table and the rules on keys allow it, and else ends in RESERVATION CONFLICT, with nothing changed; in either case a record
-- is left.
use Rattle.std.specs.Prelude.{◌≡◌, ◌≢◌, ◌↔◌, ℕ, List, None, Ok}
use Rattle.scsi_nexus.specs.declared.nexus.Nexus.{Nexus}
use Rattle.scsi_sense.specs.declared.status.Status.TheVariants.{ReservationConflict}
use Rattle.unit_attention.specs.Queues.{first_reset_of}
use Rattle.pr_core.specs.State.{cell}
use Rattle.pr_core.specs.declared.verdict.Verdict.TheVariants.{Allowed}
use Rattle.device_server.specs.View.{commands_of}
use Rattle.judgement.specs.declared.decision.Decision.{Decision}
use Rattle.judgement.specs.declared.reply.Reply.{Reply}
use Rattle.judgement.specs.declared.command.Command.{Command}
use Rattle.judgement.specs.Commands.{decoded_command, class_of_command, act_of_command}
use Rattle.judgement.specs.Decisions.{rule_of, in_conflict}
use Rattle.judgement.specs.Replies.{conflict}
use Rattle.logical_unit.specs.UnitView.{UnitView}
use Rattle.judgement.specs.UnitState.{after_contact}
use Rattle.judgement.specs.Readings.{verdict_of}
use Rattle.judgement.specs.Judge.{waiting, let_through}
use Rattle.logical_unit.specs.Step.{contacted_present, recorded, answered}

-- the bytes decode to a command, and no attention of ASC 29h waits for its sender, or the command passes over it
pub record ComesToTheCheck (u : UnitView) (n : Nexus) (cdb bytes : List ℕ) (command : Command) : Type 0 where
  pub decodes : decoded_command (commands_of u.device) cdb bytes ≡ Ok command
  pub ready : waiting (class_of_command command) (first_reset_of (after_contact u.state n).slots n) ≡ None

-- what the record of a conflict says: the sender's cell, and the rule on keys where one was broken
abbrev pub conflict_decision : UnitView → Nexus → Command → Decision
conflict_decision u n command =
    in_conflict (cell u.state.reservations n (class_of_command command)) (rule_of (verdict_of u.state.reservations n command))

-- an answer of the unit to such a command
pub record IsDecidedAs (u : UnitView) (n : Nexus) (command : Command) (bytes : List ℕ) (answer : UnitView × Reply) : Type 0 where
  pub conflicts : (answer.1.status ≡ ReservationConflict) ↔ (verdict_of u.state.reservations n command ≢ Allowed)
  pub carried_out : verdict_of u.state.reservations n command ≡ Allowed
      → answer ≡ recorded u n (act_of_command command) (let_through (contacted_present u n) n command bytes)
  pub unchanged : verdict_of u.state.reservations n command ≢ Allowed
      → answer ≡ recorded u n (act_of_command command) (contacted_present u n, conflict_decision u n command, conflict)

abbrev pub IsDecided : UnitView → Nexus → (cdb bytes : List ℕ) → Command → Type 0
IsDecided u n cdb bytes command = IsDecidedAs u n command bytes (answered u n cdb bytes)

abbrev pub ReservationCheck : Type 0
ReservationCheck = (u : UnitView) (n : Nexus) (cdb bytes : List ℕ) (command : Command) → ComesToTheCheck u n cdb bytes command → IsDecided u n cdb bytes command
