use Rattle.protected_span.proofs.StruckRowLemmas as row
use Rattle.protected_span.proofs.laws.struck_rows.Goals as goal

pub returns-clause-holder : goal.returns-clause-holder
returns-clause-holder c = row.worked_runs

pub returns-clause-group : goal.returns-clause-group
returns-clause-group c = row.worked_group_runs

pub returns-clause-steps : goal.returns-clause-steps
returns-clause-steps c = row.no_steps

pub returns-clause-replies : goal.returns-clause-replies
returns-clause-replies c = row.same_replies

pub returns-clause-told : goal.returns-clause-told
returns-clause-told c = row.told_alike

pub returns-clause-ending : goal.returns-clause-ending
returns-clause-ending c = row.ending_alike
