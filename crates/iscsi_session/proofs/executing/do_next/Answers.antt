use Rattle.std.proofs.Common.{refl}
use Rattle.iscsi_session.proofs.Acted.{next_does}
use Rattle.iscsi_session.proofs.executing.do_next.Goals as goal

pub returns-in-Ask-clause-done : goal.returns-in-Ask-clause-done
returns-in-Ask-clause-done g c = (
  _,
  next_does g.S.Service.notes g.S.KeepingService.waits c.args.nexus c.args.connection.now.tasks _ c.args.service.now _ _ _ _ c.in-Ask.is
      (c.args.connection.now.stat_sn, refl, c.ask.ensures.tasks, refl),
  c.ask.ensures.asked,
)

pub returns-in-Fail-clause-done : goal.returns-in-Fail-clause-done
returns-in-Fail-clause-done g c = (
  _,
  next_does g.S.Service.notes g.S.KeepingService.waits c.args.nexus c.args.connection.now.tasks _ c.args.service.now _ _ _ _ c.in-Fail.is
      (c.args.connection.now.limits, c.args.connection.now.stat_sn, c.fail.ensures.tasks, cc, refl),
  c.fail.ensures.failed,
)
