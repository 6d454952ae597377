use Rattle.device_server.proofs.SettledLemmas.{settling_changes, same_settled}
use Rattle.device_server.proofs.laws.settling_changes_nothing_else.Goals as goal

pub returns-clause-changes : goal.returns-clause-changes
returns-clause-changes c = settling_changes

pub returns-clause-same : goal.returns-clause-same
returns-clause-same c = same_settled
