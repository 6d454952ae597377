use Rattle.replay.proofs.RowLemmas.{faults_told, faults_in_order, replays_run}
use Rattle.replay.proofs.laws.worked_rows.Goals as goal

pub returns-clause-told : goal.returns-clause-told
returns-clause-told c = faults_told

pub returns-clause-order : goal.returns-clause-order
returns-clause-order c = faults_in_order

pub returns-clause-replays : goal.returns-clause-replays
returns-clause-replays c = replays_run
