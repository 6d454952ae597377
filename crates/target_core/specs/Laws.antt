-- What holds of every run.
use Rattle.std.specs.Prelude.{◌≡◌, ℕ, ◌==◌, List, [], ◌∷◌, ◌++◌, Some, slice_get, if◌then◌else◌}
use Rattle.scsi_cdb.specs.declared.profile.CommandSet.{CommandSet}
use Rattle.device_server.specs.View.{commands_of}
use Rattle.judgement.specs.declared.reply.Reply.{Reply}
use Rattle.judgement.specs.History.{Accepted, accepted_by, after_history}
use Rattle.logical_unit.specs.UnitView.{UnitView}
use Rattle.target_core.specs.declared.event.Event.{Event}
use Rattle.target_core.specs.declared.event.Event.TheVariants.{Command}
use Rattle.target_core.specs.Run.{Runs}

-- what one event with its reply adds to the accepted history of a unit with some commands; a loss and a reset add nothing
abbrev pub accepted_at : CommandSet → ℕ → Event → Reply → List Accepted
accepted_at commands lun (Command n at cdb bytes) r = if at == lun then accepted_by commands n cdb.items bytes.items r.status else []
accepted_at commands lun e r = []

-- the accepted history of a unit in a run, oldest first
abbrev pub accepted_in : CommandSet → ℕ → List Event → List Reply → List Accepted
accepted_in commands lun (e ∷ es) (r ∷ rs) = accepted_at commands lun e r ++ accepted_in commands lun es rs
accepted_in commands lun es rs = []

-- a unit after a run has the registrations, the reservation and the generation that its accepted history leaves
abbrev pub AcceptedHistory : Type 0
AcceptedHistory = (us vs : List UnitView) (es : List Event) (rs : List Reply) (lun : ℕ) (u v : UnitView) → Runs us es rs vs → slice_get us lun ≡ Some u → slice_get vs lun ≡ Some v
    → v.state.reservations ≡ after_history u.state.reservations (accepted_in (commands_of u.device) lun es rs)

-- a run of some events and then of others is a run of all
abbrev pub RunsJoin : Type 0
RunsJoin = (us ms vs : List UnitView) (es fs : List Event) (rs qs : List Reply) → Runs us es rs ms → Runs ms fs qs vs → Runs us (es ++ fs) (rs ++ qs) vs
