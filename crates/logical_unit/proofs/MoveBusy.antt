-- What a MOVE MEDIUM with the drives that it names is BUSY for.
use Rattle.std.proofs.Common.{◌≡◌, ℕ, Bool, true, false, refl, List, ◌∷◌, Result, Ok, ap, sym, ◌∙◌, subst, inl, inr}
use Rattle.std.specs.Prelude.{◌⊎◌, ◌&&◌, not}
use Rattle.scsi_cdb.specs.declared.request.Request.{Request}
use Rattle.scsi_nexus.specs.declared.nexus.Nexus.{Nexus}
use Rattle.scsi_sense.specs.declared.condition.Condition.{Condition}
use Rattle.scsi_sense.specs.declared.status.Status.TheVariants.{Busy}
use Rattle.device_server.specs.View.{commands_of, drives_of}
use Rattle.device_server.specs.Volumes.{is_move}
use Rattle.judgement.specs.declared.reply.Reply.{Reply}
use Rattle.judgement.specs.Commands.{decoded_command}
use Rattle.judgement.specs.declared.command.Command.{Command}
use Rattle.judgement.specs.declared.command.Command.TheVariants.{Device}
use Rattle.judgement.specs.Judge.{is_carried_out, takes_memory}
use Rattle.logical_unit.specs.MoveJudgement.{IsPutOff, IsEnded}
use Rattle.logical_unit.specs.Move.{LacksAtChanger}
use Rattle.logical_unit.specs.Route.{named}
use Rattle.logical_unit.specs.Step.{contacted_present}
use Rattle.logical_unit.specs.UnitView.{UnitView, UnitWithRoom}
use Rattle.logical_unit.proofs.History.{answers_no_busy}
use Rattle.logical_unit.proofs.NamedDrives.{has_errand, errand_asked, moving}

-- it takes no memory beside the room for records
none_so : (u : UnitView) (n : Nexus) (q : Request) (moves : Bool) → is_move q ≡ moves → moves ≡ true → (not moves && is_carried_out (contacted_present u n) n (Device q)) ≡ true → ⊥
none_so u n q true is h t = absurd cc
none_so u n q false is h t = absurd cc

takes_none : (u : UnitView) (n : Nexus) (q : Request) → is_move q ≡ true → takes_memory (contacted_present u n) n (Ok (Device q)) ≡ true → ⊥
takes_none u n q moves h = none_so u n q (is_move q) refl moves h

no_memory : (u : UnitView) (n : Nexus) (cdb bytes : List ℕ) (l : ℕ) (more : List ℕ) → named (commands_of u.device) (drives_of u.device) cdb ≡ l ∷ more → takes_memory (contacted_present u n) n (decoded_command (commands_of u.device) cdb bytes) ≡ true → ⊥
no_memory u n cdb bytes l more names h =
    let e = has_errand u.device cdb l more names in
    let is = errand_asked u.device cdb bytes l more e in
    let moves = (moving (drives_of u.device) e.decodes.request e.errand e.asks).moves in
    takes_none u n e.decodes.request moves (subst (λ (s : Result Command Condition). takes_memory (contacted_present u n) n s ≡ true) is h)

-- where the changer answers it
pub answered_lacks : (x y : UnitWithRoom) (n : Nexus) (cdb bytes : List ℕ) (reply : Reply) (l : ℕ) (more : List ℕ) → named (commands_of x.unit.device) (drives_of x.unit.device) cdb ≡ l ∷ more
    → IsPutOff x y n cdb bytes reply ⊎ IsEnded x y n cdb bytes reply → reply.status ≡ Busy → LacksAtChanger x n
answered_lacks x y n cdb bytes reply l more names (inl off) busy = elim (off.only (sym (ap (λ (r : Reply). r.status) off.refuses) ∙ busy)) [
  | inl memory ↦ absurd (no_memory x.unit n cdb bytes l more names memory)
  | inr lacks ↦ lacks
]
answered_lacks x y n cdb bytes reply l more names (inr ended) busy = absurd (answers_no_busy x.unit n cdb bytes (ap (λ (z : UnitView × Reply). z.1.status) ended.answer.answer ∙ busy))
