use Rattle.client_session.proofs.RowLemmas.{faults_told, replies_told, session_told}
use Rattle.client_session.proofs.laws.worked_rows.Goals as goal

pub returns-clause-faults : goal.returns-clause-faults
returns-clause-faults c = faults_told

pub returns-clause-replies : goal.returns-clause-replies
returns-clause-replies c = replies_told

pub returns-clause-session : goal.returns-clause-session
returns-clause-session c = session_told
