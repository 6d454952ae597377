use Rattle.std.proofs.Common.{[], refl, rules}
use Rattle.iscsi_session.specs.Moments.{moment}
use Rattle.iscsi_session.specs.Serving.{first_moment}
use Rattle.iscsi_session.proofs.Conversed.{no_matter}
use Rattle.iscsi_session.proofs.Served.{has_begun}
use Rattle.iscsi_session.proofs.Talked.{all_inside, converses_none}
use Rattle.iscsi_session.proofs.serving.DueLogin.begin.Goals as goal

pub returns-in_err-accept-clause-talks : goal.returns-in_err-accept-clause-talks
returns-in_err-accept-clause-talks g c =
    let first = first_moment c.args.self.begun c.args.service.now c.args.self.read_buffer in (
      [],
      first,
      _,
      converses_none _ first (g.R.Read.remaining c.args.reader.now),
      refl,
      no_matter _ c.from_residual.result c.from_residual.ensures.0,
      all_inside c.from_residual.result _ _ _ _ c.from_residual.ensures.0 (search rules),
    )

pub returns-clause-talks : goal.returns-clause-talks
returns-clause-talks g c =
    has_begun _ c.args.self.begun c.new.result.tasks c.args.service.now c.args.self.read_buffer c.new.result.out.items
    (moment c.serve_requests.new.self c.serve_requests.new.service) (g.R.Read.remaining c.args.reader.now) _
    (g.W.Write.contents c.args.writer.now) _ c.serve_requests.result c.new.ensures.tasks c.serve_requests.ensures.talks
    c.serve_requests.ensures.idle
