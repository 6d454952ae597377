use Rattle.library_server.proofs.Asking.{by_chap}
use Rattle.library_server.proofs.iscsi_target.authentication_of.Goals as goal

pub returns-in_ok-secrets_at-in-Some : goal.returns-in_ok-secrets_at-in-Some
returns-in_ok-secrets_at-in-Some g c = by_chap c.args.chap _ c.args.digests _ c.in-Some.is c.digests_of.ensures
