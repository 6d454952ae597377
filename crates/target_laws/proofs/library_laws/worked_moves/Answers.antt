use Rattle.target_laws.proofs.MovedRun.{moved_run, not_kept, other_cartridges, failed_run}
use Rattle.target_laws.proofs.Sending.{sent_in, sent_out}
use Rattle.target_laws.proofs.library_laws.worked_moves.Goals as goal

pub returns-clause-sent : goal.returns-clause-sent
returns-clause-sent c = sent_in

pub returns-clause-sent_out : goal.returns-clause-sent_out
returns-clause-sent_out c = sent_out

pub returns-clause-run : goal.returns-clause-run
returns-clause-run c = moved_run

pub returns-clause-not_kept : goal.returns-clause-not_kept
returns-clause-not_kept c = not_kept

pub returns-clause-other_cartridges : goal.returns-clause-other_cartridges
returns-clause-other_cartridges c = other_cartridges

pub returns-clause-failure : goal.returns-clause-failure
returns-clause-failure c = failed_run
