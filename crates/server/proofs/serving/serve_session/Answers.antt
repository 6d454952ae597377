use Rattle.server.specs.SeatService.{DoesForWorker}
use Rattle.server.proofs.Sessions.{portal_left}
use Rattle.server.proofs.serving.serve_session.Goals as goal

pub returns-in-Ok-serve_iscsi : goal.returns-in-Ok-serve_iscsi
returns-in-Ok-serve_iscsi g c =
    portal_left (DoesForWorker g.S.Service.notes g.S.SeatService.settles) g.S.Service.count _ c.in-Some.portal.group c.args.service.now c.serve_iscsi.new.service c.serve_iscsi.ensures

pub returns : goal.returns
returns g c =
    portal_left (DoesForWorker g.S.Service.notes g.S.SeatService.settles) g.S.Service.count _ c.in-Some.portal.group c.args.service.now c.serve_iscsi.new.service c.serve_iscsi.ensures
