use Rattle.std.proofs.Common.{[], sym, append-nil}
use Rattle.iscsi_session.proofs.Released.{releases_none}
use Rattle.iscsi_session.proofs.releasing.release.Goals as goal

pub returns-then-holds_none-clause-released : goal.returns-then-holds_none-clause-released
returns-then-holds_none-clause-released g c =
    ([], releases_none (g.G.SessionRegister.settles c.args.register.now) _, sym (append-nil c.args.connection.now.out.items))
