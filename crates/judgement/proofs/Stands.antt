-- What stands before a command, from the last stage to the first.
use Rattle.std.proofs.Common.{◌≡◌, ℕ, Bool, true, false, List, Option, Some, None, refl, ap, ◌∙◌}
use Rattle.std.specs.Prelude.{◌&&◌, is_none}
use Rattle.scsi_nexus.specs.declared.nexus.Nexus.{Nexus}
use Rattle.unit_attention.specs.declared.kind.Kind.{Kind}
use Rattle.unit_attention.specs.Queues.{first_reset_of}
use Rattle.pr_core.specs.declared.verdict.Verdict.{Verdict}
use Rattle.pr_core.specs.declared.verdict.Verdict.TheVariants.{Allowed}
use Rattle.permit_tables.specs.declared.cell.Cell.{Cell}
use Rattle.audit_log.specs.declared.stage.Stage.TheVariants.{ResetAttention}
use Rattle.device_server.specs.View.{DeviceView}
use Rattle.judgement.specs.declared.command.Command.{Command}
use Rattle.judgement.specs.declared.decision.Decision.{Decision}
use Rattle.judgement.specs.declared.reply.Reply.{Reply}
use Rattle.judgement.specs.declared.standing.Standing.{Standing}
use Rattle.judgement.specs.declared.standing.Standing.TheVariants.{Ended, LetThrough}
use Rattle.judgement.specs.Commands.{class_of_command}
use Rattle.judgement.specs.Decisions.{at_stage}
use Rattle.judgement.specs.JudgedUnit.{JudgedUnit}
use Rattle.judgement.specs.UnitStateView.{UnitStateView}
use Rattle.judgement.specs.UnitState.{after_contact}
use Rattle.judgement.specs.Readings.{verdict_of}
use Rattle.judgement.specs.Judge.{asks_memory, checked, commanded, is_allowed_by, is_carried_out, let_through, tells, waiting}
use Rattle.judgement.specs.Standing.{ComesThrough, StandsBy, StandsBefore, is_clear, is_let_in, met}
use Rattle.judgement.proofs.Ways.{let_by}

module _ (old new : UnitStateView) (n : Nexus) (c : Command) where
  -- what the reservation check allows
  let_in_is : (device : DeviceView) → verdict_of old.reservations n c ≡ Allowed → is_let_in (met device old n) n c ≡ is_clear
      (met device old n) n c
  let_in_is device allowed = ap (λ (v : Verdict). is_allowed_by v && is_clear (met device old n) n c) allowed

  pub from_check : (s : Standing) → verdict_of old.reservations n c ≡ Allowed → StandsBy let_through is_clear old new n c s → StandsBy
      checked is_let_in old new n c s
  from_check (Ended decision reply) allowed h = record {
    barred = λ device. let_in_is device allowed ∙ h.barred device;
    ended = λ device bytes. let_by (met device old n) n c bytes allowed ∙ h.ended device bytes;
  }
  from_check (LetThrough at) allowed h = record {
    same = h.same;
    allowed = allowed;
    clear = λ device. let_in_is device allowed ∙ h.clear device;
    carried = λ device bytes. let_by (met device old n) n c bytes allowed ∙ h.carried device bytes;
  }

  -- a command for whose sender no attention of ASC 29h waits
  abbrev pub by_reset : (device : DeviceView) (bytes : List ℕ) → Option Kind → JudgedUnit × Decision × Reply
  by_reset device bytes o = elim o [
    | Some kind ↦ tells (met device old n) n kind (at_stage ResetAttention)
    | None ↦ checked
        (met device old n) n c bytes
  ]

  carried_is : (device : DeviceView) → waiting (class_of_command c) (first_reset_of (after_contact old n).slots n) ≡ None
      → is_carried_out (met device old n) n c ≡ is_let_in (met device old n) n c
  carried_is device ready = ap (λ (o : Option Kind). is_none o && is_let_in (met device old n) n c) ready

  checked_is : (device : DeviceView) (bytes : List ℕ) → waiting (class_of_command c) (first_reset_of (after_contact old n).slots n) ≡ None
      → commanded (met device old n) n c bytes ≡ checked (met device old n) n c bytes
  checked_is device bytes ready = ap (by_reset device bytes) ready

  pub from_first : (s : Standing) → waiting (class_of_command c) (first_reset_of (after_contact old n).slots n) ≡ None
      → StandsBy checked is_let_in old new n c s → StandsBefore old new n c s
  from_first (Ended decision reply) ready h = record {
    barred = λ device. carried_is device ready ∙ h.barred device;
    ended = λ device bytes. checked_is device bytes ready ∙ h.ended device bytes;
  }
  from_first (LetThrough at) ready h = record {
    same = h.same;
    allowed = h.allowed;
    clear = λ device. carried_is device ready ∙ h.clear device;
    carried = λ device bytes. checked_is device bytes ready ∙ h.carried device bytes;
  }

-- memory is asked for by a command that comes to its own rules
asked_by : (asks comes : Bool) → asks ≡ true → comes ≡ true → (asks && comes) ≡ true
asked_by true true h i = refl
asked_by true false h i = absurd cc
asked_by false comes h i = absurd cc

pub takes_where_carried : (old new : UnitStateView) (n : Nexus) (c : Command) (at : Cell) (device : DeviceView) → asks_memory c ≡ true
    → ComesThrough commanded is_carried_out old new n c at → (asks_memory c && is_carried_out (met device old n) n c) ≡ true
takes_where_carried old new n c at device asks through = asked_by (asks_memory c) (is_carried_out (met device old n) n c) asks
    (through.clear device)
