use Rattle.std.proofs.Common.{◌++◌, ◌∷◌, [], List, ℕ, take, ap, sym, ◌∙◌, arith}
use Rattle.std.specs.List.{flat_map}
use Rattle.std.proofs.lemmas.List.{flat_map_more, take_more}
use Rattle.iscsi_answers.specs.declared.send_targets.PortalAddress.{PortalAddress}
use Rattle.iscsi_answers.specs.Texts.{address_item}
use Rattle.iscsi_answers.proofs.send_targets.write_addresses.Goals as goal

pub loop-portal-preserved : goal.loop-portal-preserved
loop-portal-preserved c =
    let portals = c.args.portals.now in
    let item = address_item portals.group portals.address.now in
    let place = c.loop-portal.portal-index in
    let here = c.portal-item.result in
    let before = take place portals.all.now in
    let more = take_more portals.all.now place here (omega arith) ∙ ap (λ (p : PortalAddress). before ++ p ∷ []) (sym c.portal-item.is) in
    c.in_ok-write_address.ensures
    ∙ ap (λ (xs : List ℕ). xs ++ item here) c.loop-portal.invariant
    ∙ flat_map_more item c.args.out.now.items before here
    ∙ ap (λ (ps : List PortalAddress). c.args.out.now.items ++ flat_map item ps) (sym more)
