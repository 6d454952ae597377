use Rattle.server.specs.Sessions.{ComesBySessions}
use Rattle.server.proofs.Sessions.{changes_zip}
use Rattle.server.proofs.staffing.work_all.Goals as goal

pub returns : goal.returns
returns g c =
    let size = c.for_each_mut.auto.s in
    changes_zip _ _ (λ v w. ComesBySessions g.S.Service.notes g.S.SeatService.settles g.S.Service.count v.service w.service) c.args.workers.now c.for_each_mut.new.s size
    (λ i x y one. rw one.left at (rw one.argument_is at one.call)) c.for_each_mut.ensures
