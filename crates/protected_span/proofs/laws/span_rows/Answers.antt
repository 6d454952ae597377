use Rattle.protected_span.proofs.RowLemmas as row
use Rattle.protected_span.proofs.laws.span_rows.Goals as goal

pub returns-clause-worked : goal.returns-clause-worked
returns-clause-worked c = row.worked_span

pub returns-clause-struck : goal.returns-clause-struck
returns-clause-struck c = row.struck_out

pub returns-clause-needed : goal.returns-clause-needed
returns-clause-needed c = row.needed

pub returns-clause-conditions : goal.returns-clause-conditions
returns-clause-conditions c = row.say

pub returns-clause-may_not : goal.returns-clause-may_not
returns-clause-may_not c = row.may_not

pub returns-clause-contents : goal.returns-clause-contents
returns-clause-contents c = row.contents
