-- What the reservation check decides.
use Rattle.std.proofs.Common.{◌≡◌, ℕ, List, Option, Some, None, Result, sym, ap, ◌∙◌}
use Rattle.scsi_nexus.specs.declared.nexus.Nexus.{Nexus}
use Rattle.scsi_sense.specs.declared.condition.Condition.{Condition}
use Rattle.unit_attention.specs.declared.kind.Kind.{Kind}
use Rattle.audit_log.specs.declared.stage.Stage.TheVariants.{ResetAttention}
use Rattle.judgement.specs.declared.command.Command.{Command}
use Rattle.judgement.specs.declared.decision.Decision.{Decision}
use Rattle.judgement.specs.Commands.{act_of_command, act_of_decoded}
use Rattle.judgement.specs.Decisions.{at_stage}
use Rattle.judgement.specs.declared.reply.Reply.{Reply}
use Rattle.judgement.specs.JudgedUnit.{JudgedUnit}
use Rattle.logical_unit.specs.UnitView.{UnitView}
use Rattle.judgement.proofs.Carried.{let_through_allowed}
use Rattle.judgement.proofs.Ways.{refused_by, let_by}
use Rattle.judgement.specs.Judge.{tells, checked, judged_as}
use Rattle.logical_unit.specs.Step.{contacted_present, recorded, answered}
use Rattle.unit_laws.specs.Check.{ComesToTheCheck, IsDecided}

-- the answer of a unit that judged so
abbrev pub recorded_as : (u : UnitView) (n : Nexus) (c : Command) → JudgedUnit × Decision × Reply → UnitView × Reply
recorded_as u n c x = recorded u n (act_of_command c) x

-- a command that comes to the check is answered by it
comes : (u : UnitView) (n : Nexus) (cdb bytes : List ℕ) (c : Command) → ComesToTheCheck u n cdb bytes c → answered u n cdb bytes ≡ recorded_as u n c (checked (contacted_present u n) n c bytes)
comes u n cdb bytes c h =
    let v = contacted_present u n in
    ap (λ (s : Result Command Condition). recorded u n (act_of_decoded s) (judged_as v n s bytes)) h.decodes
    ∙ ap (λ (o : Option Kind). recorded_as u n c (elim o [ Some kind ↦ tells v n kind (at_stage ResetAttention) | None ↦ checked v n c bytes ])) h.ready

pub is_decided : (u : UnitView) (n : Nexus) (cdb bytes : List ℕ) (c : Command) → ComesToTheCheck u n cdb bytes c → IsDecided u n cdb bytes c
is_decided u n cdb bytes c h =
    let v = contacted_present u n in
    let is = comes u n cdb bytes c h in
    record {
      conflicts = (
        λ status allowed. let_through_allowed v n c bytes (sym (ap (λ (x : UnitView × Reply). x.1.status) (is ∙ ap (recorded_as u n c) (let_by v n c bytes allowed))) ∙ status),
        λ barred. ap (λ (x : UnitView × Reply). x.1.status) (is ∙ ap (recorded_as u n c) (refused_by v n c bytes barred)),
      );
      carried_out = λ allowed. is ∙ ap (recorded_as u n c) (let_by v n c bytes allowed);
      unchanged = λ barred. is ∙ ap (recorded_as u n c) (refused_by v n c bytes barred);
    }
