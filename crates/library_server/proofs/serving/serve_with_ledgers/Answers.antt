use Rattle.std.proofs.Common.{◌≡◌, ◌∙◌, ap, Option}
use Rattle.std.specs.Prelude.{vec_len}
use Rattle.logical_unit.specs.UnitView.{units_of}
use Rattle.library_server.specs.ServerFaults.{MayTell, closing_fault, earlier, told_of}
use Rattle.library_server.specs.declared.server_fault.ServerFault.{ServerFault}
use Rattle.library_server.proofs.Closed.{library_served, seats_back}
use Rattle.library_server.proofs.Told.{all_went, closed_may, first_keeps, left_may}
use Rattle.library_server.proofs.serving.serve_with_ledgers.Goals as goal

told : (g : _) (c : goal.After-told_of g) → c.told_of.result ≡ told_of (earlier c.in_ok-served.served (earlier c.write_rest-left.result (closing_fault c.close_and_write-closed.result)))
told g c =
    let at_the_end = c.earlier.ensures ∙ ap (λ (o : Option ServerFault). earlier c.write_rest-left.result o) c.closing_fault.ensures in
    c.told_of.ensures ∙ ap (λ (o : Option ServerFault). told_of o) (c.earlier-2.ensures ∙ ap (λ (o : Option ServerFault). earlier c.in_ok-served.served o) at_the_end)

pub returns-clause-served : goal.returns-clause-served
returns-clause-served g c =
    all_went c.in_ok-served.served c.write_rest-left.result c.close_and_write-closed.result c.told_of.result (told g c)
    (λ rest closed.
    let seats = seats_back (units_of c.args.core) c.in-Ok.opened.0.units c.args.workers c.in-Ok.opened.0.seats c.in-Ok.opened.1.items c.serve_kept.new.seats.items _ _
    c.in-Ok.ensures.units c.in-Ok.ensures.untold c.in_ok-served.ensures.served c.in-Ok.ensures.seats c.in-Ok.opened.1.ok.0 c.serve_kept.new.seats.ok.0 in
    library_served (units_of c.args.core) c.args.workers c.args.means.now.records c.of_the_rest-audit.result _ _ _ _ _ _ _ _ c.of_the_rest-audit.ensures seats.0 c.requires.since c.new-batch.ensures
    c.serve_kept.ensures.lines rest closed)
    c.write_rest-left.ensures.left c.close_and_write-closed.ensures.closed

pub returns-clause-fault : goal.returns-clause-fault
returns-clause-fault g c =
    let term = c.args.acceptor.now.limits.term in
    let seats = seats_back (units_of c.args.core) c.in-Ok.opened.0.units c.args.workers c.in-Ok.opened.0.seats c.in-Ok.opened.1.items c.serve_kept.new.seats.items _ _
    c.in-Ok.ensures.units c.in-Ok.ensures.untold c.in_ok-served.ensures.served c.in-Ok.ensures.seats c.in-Ok.opened.1.ok.0 c.serve_kept.new.seats.ok.0 in
    first_keeps (MayTell term) c.in_ok-served.served c.write_rest-left.result c.close_and_write-closed.result c.told_of.result (told g c) c.in_ok-served.ensures.fault (left_may term c.write_rest-left.result c.write_rest-left.ensures.fault)
    (closed_may term c.in-Ok.opened.0.seats (vec_len c.serve_kept.new.seats) c.close_and_write-closed.result seats.1 c.close_and_write-closed.ensures.fault)
