use Rattle.target_laws.proofs.EventRows.{busy_runs, losses_and_resets}
use Rattle.target_laws.proofs.Row.{worked}
use Rattle.target_laws.proofs.Sending.{sent}
use Rattle.target_laws.proofs.laws.worked_run.Goals as goal

pub returns-clause-sent : goal.returns-clause-sent
returns-clause-sent c = sent

pub returns-clause-run : goal.returns-clause-run
returns-clause-run c = worked

pub returns-clause-busy : goal.returns-clause-busy
returns-clause-busy c = busy_runs

pub returns-clause-events : goal.returns-clause-events
returns-clause-events c = losses_and_resets
