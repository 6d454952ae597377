use Rattle.std.proofs.Common.{rules, ◌≡◌, true, None, ap, sym, ◌∙◌}
use Rattle.element_map.specs.Exchange.{has_drive, exchange_refusal}
use Rattle.device_server.specs.HostChanger.{ChangerView, host_view}
use Rattle.device_server.specs.declared.outcome.Outcome.{Outcome}
use Rattle.device_server.proofs.ExchangeLemmas.{left_to_drive}
use Rattle.changer_server.proofs.host_answers.exchange.Goals as goal

pub returns-then-has_drive : goal.returns-then-has_drive
returns-then-has_drive c =
    let view : ChangerView = host_view c.args.elements.now c.args.hosts.now in
    let free : exchange_refusal c.args.elements.now c.args.transport c.args.source c.args.first c.args.second ≡ None = search rules in
    let drive : has_drive c.args.elements.now c.args.source c.args.first c.args.second ≡ true = search rules in
    left_to_drive view c.args.hosts.now c.args.transport c.args.source c.args.first c.args.second free drive
    ∙ ap (λ (o : Outcome). (view, o)) (sym c.check-then-has_drive.ensures)
