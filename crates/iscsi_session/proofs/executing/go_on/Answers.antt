use Rattle.std.proofs.Common.{◌+◌, ◌++◌, [], append-nil, rules, sym}
use Rattle.iscsi_session.proofs.Acted.{does_waiting, falls, goes_more, goes_none, next_acts, said_more}
use Rattle.iscsi_session.proofs.executing.go_on.Goals as goal

pub steps-init : goal.steps-init
steps-init g c =
    (0, [], goes_none g.S.Service.notes g.S.KeepingService.waits c.args.nexus c.args.connection.now.tasks c.args.service.now, sym (append-nil c.args.connection.now.out.items))

pub steps-smaller : goal.steps-smaller
steps-smaller g c =
    falls c.steps.connection.tasks c.next-next.new.self c.do_next.new.connection.tasks c.next-next.result c.next-next.ensures.next
    c.next-next.ensures.state (does_waiting g.S.Service.notes g.S.KeepingService.waits c.args.nexus _ _ _ _ _ _ c.do_next.ensures.done.1) cc

pub steps-preserved : goal.steps-preserved
steps-preserved g c =
    let so = c.steps.invariant in
    let done = c.in_ok-do_next.ensures.done in (
      so.0 + 1,
      so.1 ++ done.0,
      goes_more g.S.Service.notes g.S.KeepingService.waits c.args.nexus so.0 _ c.steps.connection.tasks _ _ c.steps.service _ so.1 done.0 so.2
          (next_acts g.S.Service.notes g.S.KeepingService.waits c.args.nexus c.steps.connection.tasks c.next-next.new.self _ c.steps.service _ c.next-next.result done.0
          c.next-next.ensures.next c.next-next.ensures.state done.1),
      said_more so.1 done.0 _ _ _ so.3 done.2,
    )

pub returns-in_err-do_next-clause-gone : goal.returns-in_err-do_next-clause-gone
returns-in_err-do_next-clause-gone g c =
    let so = c.steps.invariant in
    let done = c.do_next.ensures.done in (
      so.0 + 1,
      so.1 ++ done.0,
      goes_more g.S.Service.notes g.S.KeepingService.waits c.args.nexus so.0 _ c.steps.connection.tasks _ _ c.steps.service _ so.1 done.0 so.2
          (next_acts g.S.Service.notes g.S.KeepingService.waits c.args.nexus c.steps.connection.tasks c.next-next.new.self _ c.steps.service _ c.next-next.result done.0
          c.next-next.ensures.next c.next-next.ensures.state done.1),
      search rules,
    )
