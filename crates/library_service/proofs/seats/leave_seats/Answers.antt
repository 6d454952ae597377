use Rattle.std.proofs.Common.{◌≡◌, ◌∙◌, ◌+◌, ◌≤◌, length, map-id, sym, rules, arith}
use Rattle.std.specs.Prelude.{vec_capacity}
use Rattle.std.proofs.lemmas.Iterator.Consumers.{YieldsList-end, YieldsList-turn}
use Rattle.std.proofs.lemmas.Iterator.Adapters.{YieldsList-from_vec}
use Rattle.session.proofs.GivenBack.{back_more, room_for_one}
use Rattle.library_service.proofs.seats.leave_seats.Goals as goal

pub push_reserved-requires : goal.push_reserved-requires
push_reserved-requires g c =
    let turn = YieldsList-turn (YieldsList-from_vec {s = c.into_iter-service-iterator.result} c.args.services.items (search rules) (search rules))
    c.services.yielded c.services.service-iterator c.services.yielded_by c.next.result c.next.new.self c.in-Some.service c.in-Some.is c.next.ensures.steps in
    let most : length c.args.seats.now.items + length c.args.services.items ≤ vec_capacity c.args.seats.now = omega (arith, c.requires, c.args.seats.now.ok.0, c.args.services.ok.0) in
    let room = room_for_one (λ s. s.seat) c.args.seats.now.items c.services.seats.items c.services.yielded c.args.services.items (vec_capacity c.args.seats.now) c.services.invariant.0 most turn.0 in
    omega (arith, room, c.services.invariant.1, c.services.seats.ok.0)

pub services-preserved : goal.services-preserved
services-preserved g c = (
  back_more (λ s. s.seat) c.args.seats.now.items c.services.seats.items c.push_reserved.new.self.items c.services.yielded c.in-Some.service c.into_seat.result c.services.invariant.0 c.into_seat.ensures
      c.push_reserved.ensures.items,
  c.push_reserved.ensures.capacity ∙ c.services.invariant.1,
)

pub returns : goal.returns
returns g c =
    let end = YieldsList-end (YieldsList-from_vec {s = c.into_iter-service-iterator.result} c.args.services.items (search rules) (search rules))
    c.services.yielded c.services.service-iterator c.services.yielded_by c.next.result c.next.new.self c.in-None.is c.next.ensures.steps in
    let all : c.services.yielded ≡ c.args.services.items = sym (map-id c.services.yielded) ∙ end.0 in rw all at c.services.invariant.0
