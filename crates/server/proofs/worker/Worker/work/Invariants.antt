use Rattle.server.specs.Sessions.{ComesBySessions}
use Rattle.server.proofs.worker.Worker.work.Given as goal

abbrev pub invariant-turns : goal.invariant-turns
invariant-turns g l =
    ComesBySessions g.S.Service.notes g.S.SeatService.settles g.S.Service.count l.fn.self.service l.self.service
