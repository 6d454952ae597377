use Rattle.std.proofs.Common.{◌≡◌, ◌∙◌, ◌+◌, ◌≤◌, length, map-id, sym, rules, arith}
use Rattle.std.specs.Prelude.{vec_capacity}
use Rattle.std.proofs.lemmas.Iterator.Consumers.{YieldsList-end, YieldsList-turn}
use Rattle.std.proofs.lemmas.Iterator.Adapters.{YieldsList-from_vec}
use Rattle.session.proofs.GivenBack.{back_more, room_for_one}
use Rattle.server.proofs.FirstTold.{told_more}
use Rattle.server.proofs.staff.give_back.Goals as goal

pub push_reserved-requires : goal.push_reserved-requires
push_reserved-requires g c =
    let turn = YieldsList-turn (YieldsList-from_vec {s = c.into_iter-worker-iterator.result} c.args.workers.items (search rules) (search rules))
    c.workers.yielded c.workers.worker-iterator c.workers.yielded_by c.next.result c.next.new.self c.in-Some.worker c.in-Some.is c.next.ensures.steps in
    let most : length c.args.services.now.items + length c.args.workers.items ≤ vec_capacity c.args.services.now = omega (arith, c.requires, c.args.services.now.ok.0, c.args.workers.ok.0) in
    let room = room_for_one (λ w. w.service) c.args.services.now.items c.workers.services.items c.workers.yielded c.args.workers.items (vec_capacity c.args.services.now) c.workers.invariant.0 most turn.0 in
    omega (arith, room, c.workers.invariant.1, c.workers.services.ok.0)

pub workers-preserved : goal.workers-preserved
workers-preserved g c = (
  back_more (λ w. w.service) c.args.services.now.items c.workers.services.items c.push_reserved.new.self.items c.workers.yielded c.in-Some.worker c.into_seat_service.result
      c.workers.invariant.0 c.into_seat_service.ensures c.push_reserved.ensures.items,
  c.push_reserved.ensures.capacity ∙ c.workers.invariant.1,
  told_more (λ w. w.fault) c.workers.told c.first_accepted-told.result c.workers.yielded c.in-Some.worker c.workers.invariant.2 c.first_accepted-told.ensures,
)

pub returns-clause-services : goal.returns-clause-services
returns-clause-services g c =
    let end = YieldsList-end (YieldsList-from_vec {s = c.into_iter-worker-iterator.result} c.args.workers.items (search rules) (search rules))
    c.workers.yielded c.workers.worker-iterator c.workers.yielded_by c.next.result c.next.new.self c.in-None.is c.next.ensures.steps in
    let all : c.workers.yielded ≡ c.args.workers.items = sym (map-id c.workers.yielded) ∙ end.0 in rw all at c.workers.invariant.0

pub returns-clause-fault : goal.returns-clause-fault
returns-clause-fault g c =
    let end = YieldsList-end (YieldsList-from_vec {s = c.into_iter-worker-iterator.result} c.args.workers.items (search rules) (search rules))
    c.workers.yielded c.workers.worker-iterator c.workers.yielded_by c.next.result c.next.new.self c.in-None.is c.next.ensures.steps in
    let all : c.workers.yielded ≡ c.args.workers.items = sym (map-id c.workers.yielded) ∙ end.0 in rw all at c.workers.invariant.2
