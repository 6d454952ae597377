use Rattle.std.proofs.Common.{◌++◌}
use Rattle.iscsi_session.proofs.Acted.{adds_nothing, said_more}
use Rattle.iscsi_session.proofs.Released.{releases_then}
use Rattle.iscsi_session.proofs.releasing.release_held.Goals as goal

pub returns-in_err-release_one-clause-released : goal.returns-in_err-release_one-clause-released
returns-in_err-release_one-clause-released g c =
    let so = c.tickets.invariant in
    let one = c.release_one.ensures.released in (
      so.0 ++ one.0,
      releases_then (g.G.SessionRegister.settles c.args.register.now) _ _ _ so.0 one.0 so.1 one.1,
      adds_nothing c.from_residual.result _ _ (so.0 ++ one.0) c.from_residual.ensures.0,
    )

pub tickets-preserved : goal.tickets-preserved
tickets-preserved g c =
    let so = c.tickets.invariant in
    let one = c.in_ok-release_one.ensures.released in (
      so.0 ++ one.0,
      releases_then (g.G.SessionRegister.settles c.args.register.now) _ _ _ so.0 one.0 so.1 one.1,
      said_more so.0 one.0 _ _ _ so.2 one.2,
    )
