use Rattle.std.proofs.Common.{◌≡◌, ◌∙◌, length, drop, [], arith}
use Rattle.server.specs.Sessions.{ComesBySessions}
use Rattle.server.proofs.Sessions.{served, take_at}
use Rattle.server.proofs.staffing.serve_sessions.Goals as goal

pub returns : goal.returns
returns g c =
    let before = c.in_ok-workers.workers in
    let after = c.work_all.new.workers in
    let came = rw c.as_mut_slice.ensures.value at c.work_all.ensures in
    let size : length after ≡ before.len = omega (arith, c.work_all.auto.workers, c.as_mut_slice.ensures.len) in
    let went = rw (take_at after (drop (length after) before.items) before.len size) at c.give_back-served.ensures.services in
    let empty : c.reserve.new.self.items ≡ [] = c.reserve.ensures.items ∙ c.new-back.ensures.items in
    let taken = c.replace-taken.ensures.value in
    let held = rw taken at c.in_ok-workers.ensures in
    served (ComesBySessions g.S.Service.notes g.S.SeatService.settles g.S.Service.count) (λ w. w.service) c.args.services.now.items before.items after c.reserve.new.self.items
    c.give_back-served.new.services.items held came empty went
