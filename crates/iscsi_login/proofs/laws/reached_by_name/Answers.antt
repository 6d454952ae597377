use Rattle.iscsi_login.proofs.Reached.{reached}
use Rattle.iscsi_login.proofs.laws.reached_by_name.Goals as goal

pub returns-clause-let_in : goal.returns-clause-let_in
returns-clause-let_in c group target comings f e = (reached group target comings f e).0

pub returns-clause-in_range : goal.returns-clause-in_range
returns-clause-in_range c group target comings f e = (reached group target comings f e).1
