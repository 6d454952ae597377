use Rattle.iscsi_login.proofs.Exchanged.{begins}
use Rattle.iscsi_login.proofs.laws.begins_by_name.Goals as goal

pub returns-clause-let_in : goal.returns-clause-let_in
returns-clause-let_in c group target challenge comings f e = (begins group target challenge comings f e).0

pub returns-clause-in_range : goal.returns-clause-in_range
returns-clause-in_range c group target challenge comings f e = (begins group target challenge comings f e).1
