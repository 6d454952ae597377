use Rattle.std.proofs.Common.{◌≡◌, ◌∙◌, [], map-id, sym, rules}
use Rattle.std.proofs.lemmas.Iterator.Consumers.{YieldsList-end}
use Rattle.std.proofs.lemmas.Iterator.Adapters.{YieldsList-from_vec}
use Rattle.session.proofs.GivenBack.{back_more}
use Rattle.library_service.specs.LibraryService.{service_at}
use Rattle.library_service.proofs.seats.services_of.Goals as goal

pub seats-preserved : goal.seats-preserved
seats-preserved g c =
    back_more (service_at c.args.library.now.units) [] c.seats.services.items c.push.new.self.items c.seats.yielded c.in-Some.seat c.new.result c.seats.invariant c.new.ensures
    c.in_ok-push.ensures.items

pub returns : goal.returns
returns g c =
    let end = YieldsList-end (YieldsList-from_vec {s = c.into_iter-seat-iterator.result} c.args.seats.items (search rules) (search rules))
    c.seats.yielded c.seats.seat-iterator c.seats.yielded_by c.next.result c.next.new.self c.in-None.is c.next.ensures.steps in
    let all : c.seats.yielded ≡ c.args.seats.items = sym (map-id c.seats.yielded) ∙ end.0 in rw all at c.seats.invariant
