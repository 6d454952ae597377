use Rattle.target_core.proofs.History.{history_of_run}
use Rattle.target_laws.proofs.laws.accepted_history.Goals as goal

pub returns : goal.returns
returns c = history_of_run
