-- A command that was answered in room that was made for its record.
use Rattle.std.proofs.Common.{◌≡◌, ℕ, ◌+◌, ◌<◌, ◌^◌, true, List, Result, sym, ap, ◌∙◌, subst, inr}
use Rattle.scsi_nexus.specs.declared.nexus.Nexus.{Nexus}
use Rattle.scsi_cdb.specs.declared.profile.CommandSet.{CommandSet}
use Rattle.audit_log.specs.declared.act.Act.{Act}
use Rattle.device_server.specs.View.{DeviceView, commands_of}
use Rattle.judgement.specs.Commands.{decoded_command, act_of_decoded}
use Rattle.judgement.specs.declared.reply.Reply.{Reply}
use Rattle.logical_unit.specs.UnitView.{UnitView, UnitWithRoom, RecordedUnitView, unit_of, last_in}
use Rattle.judgement.specs.UnitState.{has_room, after_contact}
use Rattle.judgement.specs.UnitStateView.{UnitStateView}
use Rattle.judgement.specs.JudgedUnit.{JudgedUnit}
use Rattle.judgement.specs.Judge.{judged_as}
use Rattle.judgement.specs.declared.command.Command.{Command}
use Rattle.judgement.specs.declared.decision.Decision.{Decision}
use Rattle.scsi_sense.specs.declared.condition.Condition.{Condition}
use Rattle.logical_unit.specs.Step.{answered, recorded, HasNumber, IsBusyOnlyFor, Executes}
use Rattle.logical_unit.proofs.History.{answers_no_busy}

pub executed : (u v : UnitView) (d : DeviceView) (old ready : RecordedUnitView) (n : Nexus) (cdb bytes : List ℕ) (r : Reply)
    → unit_of d old ≡ u → ready ≡ record old { room = ready.room } → has_room old.state n ≡ true → last_in ready + 1 < 2 ^ 64
    → answered (unit_of d ready) n cdb bytes ≡ (v, r) → Executes u n cdb bytes (v, r)
executed u v d old ready n cdb bytes r is rest slot number answer =
    let same : unit_of d ready ≡ u = ap (unit_of d) rest ∙ is in
    inr (
      subst (λ (x : UnitView). has_room x.state n ≡ true) is slot,
      subst HasNumber same number,
      sym answer ∙ ap (λ (x : UnitView). answered x n cdb bytes) same,
    )

-- an answer that was judged isn't BUSY
pub not_busy : (x : UnitWithRoom) (v : UnitView) (d : DeviceView) (ready : RecordedUnitView) (n : Nexus) (cdb bytes : List ℕ) (r : Reply)
    → answered (unit_of d ready) n cdb bytes ≡ (v, r) → IsBusyOnlyFor x n cdb bytes r
not_busy x v d ready n cdb bytes r answer busy =
    absurd (answers_no_busy (unit_of d ready) n cdb bytes (ap (λ (y : UnitView × Reply). y.1.status) answer ∙ busy))

-- what is judged, by other terms for the sender and the data
pub judged_alike : (d : DeviceView) (state : UnitStateView) (s : Result Command Condition) (n n' : Nexus) (bytes bytes' : List ℕ)
    (out : JudgedUnit × Decision × Reply)
    → n ≡ n' → bytes ≡ bytes' → judged_as (record { device = d; state = after_contact state n }) n s bytes ≡ out
    → judged_as (record { device = d; state = after_contact state n' }) n' s bytes' ≡ out
judged_alike d state s n n' bytes bytes' out senders sent judged =
    sym (ap (judged_as (record { device = d; state = after_contact state n' }) n' s) sent)
    ∙ sym (ap (λ (m : Nexus). judged_as (record { device = d; state = after_contact state m }) m s bytes) senders)
    ∙ judged

-- what is answered, by the command that was decoded and by other terms for the unit, the sender and the data
pub answered_alike : (d : DeviceView) (v v' : RecordedUnitView) (n n' : Nexus) (cdb bytes bytes' : List ℕ) (commands : CommandSet)
    (s : Result Command Condition) (a : Act)
    (out : JudgedUnit × Decision × Reply) (end : UnitView × Reply)
    → v ≡ v' → n ≡ n' → bytes ≡ bytes' → commands ≡ commands_of d → s ≡ decoded_command commands cdb bytes' → a ≡ act_of_decoded s
    → judged_as (record { device = d; state = after_contact v.state n }) n s bytes ≡ out → recorded (unit_of d v) n a out ≡ end
    → answered (unit_of d v') n' cdb bytes' ≡ end
answered_alike d v v' n n' cdb bytes bytes' commands s a out end views senders sent same_commands spelt asked judged noted =
    let found : s ≡ decoded_command (commands_of d) cdb bytes' = spelt ∙ ap (λ (k : CommandSet). decoded_command k cdb bytes') same_commands in
    let at : answered (unit_of d v) n cdb bytes ≡ end
    = subst (λ (t : Result Command Condition). recorded (unit_of d v) n (act_of_decoded t)
    (judged_as (record { device = d; state = after_contact v.state n }) n t bytes) ≡ end)
    (found ∙ sym (ap (decoded_command (commands_of d) cdb) sent))
    (ap (recorded (unit_of d v) n (act_of_decoded s)) judged ∙ ap (λ (b : Act). recorded (unit_of d v) n b out) (sym asked) ∙ noted) in
    subst (λ (w : RecordedUnitView). answered (unit_of d w) n' cdb bytes' ≡ end) views
    (subst (λ (b : List ℕ). answered (unit_of d v) n' cdb b ≡ end) sent (subst (λ (m : Nexus). answered (unit_of d v) m cdb bytes ≡ end)
    senders at))
