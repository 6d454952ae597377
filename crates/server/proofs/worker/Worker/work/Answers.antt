use Rattle.server.proofs.Sessions.{one_more}
use Rattle.server.proofs.worker.Worker.work.Goals as goal

pub turns-preserved-in-Accepted : goal.turns-preserved-in-Accepted
turns-preserved-in-Accepted g c =
    one_more g.S.Service.notes g.S.SeatService.settles g.S.Service.count c.args.self.now.service c.turns.self.service c.serve_one.new.self.service c.finish.new.self c.turns.invariant c.serve_one.ensures c.finish.ensures
