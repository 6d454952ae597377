use Rattle.std.proofs.Common.{◌≡◌, ◌∙◌, List, length, [], ap, arith}
use Rattle.std.proofs.lemmas.List.{length-map}
use Rattle.library_service.specs.LibraryService.{DoesToService, LibraryServiceValue, SettlesService, service_at}
use Rattle.server.specs.Sessions.{ComesBySessions}
use Rattle.library_server.proofs.Closed.{writes_none}
use Rattle.library_server.proofs.ServedSeats.{as_many, seats_left}
use Rattle.library_server.proofs.serving.serve_seats.Goals as goal

pub returns-in_err-reserve-clause-lines : goal.returns-in_err-reserve-clause-lines
returns-in_err-reserve-clause-lines g c = writes_none c.args.means.now.records (g.W.Write.contents c.args.writer.now) _

pub returns-in_err-services-clause-lines : goal.returns-in_err-services-clause-lines
returns-in_err-services-clause-lines g c = writes_none c.args.means.now.records (g.W.Write.contents c.args.writer.now) _

pub give_back-requires : goal.give_back-requires
give_back-requires g c =
    let came = as_many (ComesBySessions DoesToService SettlesService (λ x. x.units)) c.in_ok-services.services.items c.serve_services.new.services.items c.in_ok-served.ensures.served in
    let made : length c.in_ok-services.services.items ≡ length c.replace-taken.result.items =
    ap (λ (xs : List LibraryServiceValue). length xs) c.in_ok-services.ensures ∙ length-map c.replace-taken.result.items (service_at c.args.library.now.units) in
    let taken : c.replace-taken.result.len ≡ c.args.seats.now.len = ap (λ v. v.len) c.replace-taken.ensures.value in
    let room = c.in_ok-reserve.ensures.ok in
    omega (arith, came, made, taken, room, c.len.ensures, c.serve_services.new.services.ok.0, c.replace-taken.result.ok.0, c.args.seats.now.ok.0)

pub returns-clause-served : goal.returns-clause-served
returns-clause-served g c =
    let services = c.in_ok-services.ensures in
    let value = c.replace-taken.ensures.value in
    let made = rw value at services in
    let empty : c.reserve.new.self.items ≡ [] = c.reserve.ensures.items ∙ c.new-back.ensures.items in
    seats_left c.args.library.now.units c.args.seats.now.items c.give_back.new.seats.items c.reserve.new.self.items c.in_ok-services.services.items c.serve_services.new.services.items made
    c.in_ok-served.ensures.served empty c.give_back.ensures
