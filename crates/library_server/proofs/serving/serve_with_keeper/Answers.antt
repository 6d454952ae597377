use Rattle.std.specs.Prelude.{IfSome}
use Rattle.library_server.specs.ServerFaults.{MayTell}
use Rattle.library_server.proofs.Told.{earlier_keeps, media_may, own_may}
use Rattle.library_server.proofs.serving.serve_with_keeper.Goals as goal

pub returns-clause-fault : goal.returns-clause-fault
returns-clause-fault g c =
    let term = c.args.acceptor.now.limits.term in
    let own : IfSome c.own_fault.result (MayTell term) = rw c.own_fault.ensures (own_may term c.in_ok-served.served) in
    let kept = media_may term c.keep_at_the_end-kept.result c.keep_at_the_end-kept.ensures in
    let first : IfSome c.earlier.result (MayTell term) = rw c.earlier.ensures (earlier_keeps (MayTell term) c.own_fault.result c.keep_at_the_end-kept.result own kept) in first
