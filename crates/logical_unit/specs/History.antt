-- The accepted history of a unit: the PERSISTENT RESERVE OUT commands that ended GOOD, oldest first, each as its sender with its
-- parameters. What stands at the unit afterwards is what they leave, one after another, of what stood before.
use Rattle.std.specs.Prelude.{◌≡◌, ◌≢◌, ℕ, List}
use Rattle.scsi_nexus.specs.declared.nexus.Nexus.{Nexus}
use Rattle.scsi_sense.specs.declared.status.Status.TheVariants.{Busy}
use Rattle.device_server.specs.View.{commands_of}
use Rattle.judgement.specs.declared.reply.Reply.{Reply}
use Rattle.judgement.specs.History.{accepted_by, after_history}
use Rattle.logical_unit.specs.Step.{answered, Executes}
use Rattle.logical_unit.specs.UnitView.{UnitView}

-- one command changes the registrations, the reservation and the generation just as its part of the history says
abbrev pub KeepsHistory : Type 0
KeepsHistory = (u v : UnitView) (n : Nexus) (cdb bytes : List ℕ) (r : Reply) → Executes u n cdb bytes (v, r)
    → v.state.reservations ≡ after_history u.state.reservations (accepted_by (commands_of u.device) n cdb bytes r.status)

-- no command that is judged is answered BUSY
abbrev pub AnswersNoBusy : Type 0
AnswersNoBusy = (u : UnitView) (n : Nexus) (cdb bytes : List ℕ) → (answered u n cdb bytes).1.status ≢ Busy
