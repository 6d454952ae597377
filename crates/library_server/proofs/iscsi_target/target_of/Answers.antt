use Rattle.library_server.proofs.Asking.{asked}
use Rattle.library_server.proofs.iscsi_target.target_of.Goals as goal

pub returns-clause-authentication : goal.returns-clause-authentication
returns-clause-authentication g c = asked c.args.iscsi c.in-Some.options _ _ c.in-Some.is c.in_ok-target_named-2.ensures c.in_ok-authentication.ensures
