-- What a command leaves: the same unit, with what the accepted history says.
use Rattle.std.proofs.Common.{◌≡◌, ℕ, List, Result, Ok, Err, refl, sym, inl, inr, subst}
use Rattle.scsi_nexus.specs.declared.nexus.Nexus.{Nexus}
use Rattle.scsi_sense.specs.declared.condition.Condition.{Condition}
use Rattle.pr_core.specs.State.{State}
use Rattle.device_server.specs.View.{commands_of}
use Rattle.device_server.specs.Ends.{IsSameDevice}
use Rattle.device_server.specs.Marks.{KeepsMarks}
use Rattle.judgement.specs.declared.command.Command.{Command}
use Rattle.judgement.specs.declared.command.Command.TheVariants.{ReserveOut, ReserveIn, Inquiry, ReportLuns, RequestSense, Prevent, Device}
use Rattle.judgement.specs.Commands.{decoded_command}
use Rattle.judgement.specs.declared.reply.Reply.{Reply}
use Rattle.judgement.specs.Replies.{busy}
use Rattle.judgement.specs.History.{accepted_as, accepted_by, after_history}
use Rattle.judgement.proofs.Carried.{judged_is, judged_free}
use Rattle.logical_unit.specs.UnitView.{UnitView}
use Rattle.logical_unit.specs.Step.{contacted_present, Executes}
use Rattle.logical_unit.specs.History.{AnswersNoBusy}

-- nothing is accepted where the answer is BUSY
busy_keeps : (v : State) (n : Nexus) (c : Result Command Condition) → v ≡ after_history v (accepted_as n busy.status c)
busy_keeps v n (Err condition) = refl
busy_keeps v n (Ok (ReserveOut p)) = refl
busy_keeps v n (Ok (ReserveIn a l)) = refl
busy_keeps v n (Ok (Inquiry e p l)) = refl
busy_keeps v n (Ok (ReportLuns s l)) = refl
busy_keeps v n (Ok (RequestSense d l)) = refl
busy_keeps v n (Ok (Prevent p)) = refl
busy_keeps v n (Ok (Device r)) = refl

-- a unit with the same device, its number, its target's units and their profile, and what the history says of its reservations
pub record Stays (u : UnitView) (n : Nexus) (c : Result Command Condition) (x : UnitView × Reply) : Type 0 where
  pub device : IsSameDevice u.device x.0.device
  pub lun : x.0.state.lun ≡ u.state.lun
  pub units : x.0.state.units ≡ u.state.units
  pub profile : x.0.state.profile ≡ u.state.profile
  pub reservations : x.0.state.reservations ≡ after_history u.state.reservations (accepted_as n x.1.status c)

pub executes_stays : (u v : UnitView) (n : Nexus) (cdb bytes : List ℕ) (r : Reply) → Executes u n cdb bytes (v, r) → Stays u n (decoded_command (commands_of u.device) cdb bytes) (v, r)
executes_stays u v n cdb bytes r (inl e) =
    let c = decoded_command (commands_of u.device) cdb bytes in
    subst (Stays u n c) (sym e) (record { device = record { kind = refl; profile = refl; identity = refl; drives = refl }; lun = refl; units = refl; profile = refl; reservations = busy_keeps u.state.reservations n c })
executes_stays u v n cdb bytes r (inr e) =
    let c = decoded_command (commands_of u.device) cdb bytes in
    let judged = judged_is (contacted_present u n) n c bytes in
    subst (Stays u n c) (sym e.2) (record { device = judged.same.device.device; lun = judged.same.lun; units = judged.same.units; profile = judged.same.profile; reservations = judged.reservations })

-- and no command of one unit changes the marks of its device
pub executes_marks : (u v : UnitView) (n : Nexus) (cdb bytes : List ℕ) (r : Reply) → Executes u n cdb bytes (v, r) → KeepsMarks u.device v.device
executes_marks u v n cdb bytes r (inl e) =
    subst (λ (x : UnitView × Reply). KeepsMarks u.device x.0.device) (sym e) (record { device = record { kind = refl; profile = refl; identity = refl; drives = refl }; marks = refl })
executes_marks u v n cdb bytes r (inr e) =
    subst (λ (x : UnitView × Reply). KeepsMarks u.device x.0.device) (sym e.2) (judged_is (contacted_present u n) n (decoded_command (commands_of u.device) cdb bytes) bytes).same.device

pub executes_keeps : (u v : UnitView) (n : Nexus) (cdb bytes : List ℕ) (r : Reply) → Executes u n cdb bytes (v, r)
    → v.state.reservations ≡ after_history u.state.reservations (accepted_by (commands_of u.device) n cdb bytes r.status)
executes_keeps u v n cdb bytes r e = (executes_stays u v n cdb bytes r e).reservations

pub answers_no_busy : AnswersNoBusy
answers_no_busy u n cdb bytes = judged_free (contacted_present u n) n (decoded_command (commands_of u.device) cdb bytes) bytes
