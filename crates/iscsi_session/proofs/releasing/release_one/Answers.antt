use Rattle.std.proofs.Common.{◌∙◌}
use Rattle.iscsi_session.proofs.Released.{due_as, releases_one}
use Rattle.iscsi_session.proofs.releasing.release_one.Goals as goal

pub returns-in-Some-clause-released : goal.returns-in-Some-clause-released
returns-in-Some-clause-released g c =
    let one = c.add_due.ensures.said in (
      one.0,
      releases_one (g.G.SessionRegister.settles c.args.register.now) _ _ c.args.ticket _ one.0 c.in-Some.ensures
          (c.add_due.ensures.tasks ∙ c.settle-due.ensures.state)
          (due_as _ _ _ _ one.0 c.add_due.ensures.tasks (c.as_slice.ensures.value ∙ c.settle-due.ensures.answers) one.1),
      one.2,
    )
