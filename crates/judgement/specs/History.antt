-- The accepted history of a unit: the PERSISTENT RESERVE OUT commands that ended GOOD, oldest first, each as its sender with its
-- parameters.
use Rattle.std.specs.Prelude.{ℕ, Bool, true, false, List, [], ◌∷◌, Result, Ok, if◌then◌else◌}
use Rattle.std.specs.List.{fold}
use Rattle.scsi_cdb.specs.declared.profile.CommandSet.{CommandSet}
use Rattle.scsi_nexus.specs.declared.nexus.Nexus.{Nexus}
use Rattle.scsi_sense.specs.declared.condition.Condition.{Condition}
use Rattle.scsi_sense.specs.declared.status.Status.{Status}
use Rattle.scsi_sense.specs.declared.status.Status.TheVariants.{Good}
use Rattle.permit_tables.specs.declared.out_params.OutParams.{OutParams}
use Rattle.pr_core.specs.State.{State}
use Rattle.pr_core.specs.Outcome.{applied}
use Rattle.judgement.specs.declared.command.Command.{Command}
use Rattle.judgement.specs.declared.command.Command.TheVariants.{ReserveOut}
use Rattle.judgement.specs.Commands.{decoded_command}

abbrev pub is_good : Status → Bool
is_good Good = true
is_good status = false

-- an accepted command of a nexus
abbrev pub Accepted : Type 0
Accepted = Nexus × OutParams

-- what a command with its status adds to the history
abbrev pub accepted_as : Nexus → Status → Result Command Condition → List Accepted
accepted_as n status (Ok (ReserveOut params)) = if is_good status then (n, params) ∷ [] else []
accepted_as n status command = []

abbrev pub accepted_by : CommandSet → Nexus → (cdb bytes : List ℕ) → Status → List Accepted
accepted_by commands n cdb bytes status = accepted_as n status (decoded_command commands cdb bytes)

-- what a history leaves of what stood at first
abbrev pub after_history : State → List Accepted → State
after_history v history = fold (λ w e. applied w e.0 e.1) v history
