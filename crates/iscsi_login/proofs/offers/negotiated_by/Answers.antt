use Rattle.std.proofs.Common.{◌+◌, ◌-◌, length, Err, sym, ap, ◌∙◌}
use Rattle.iscsi_keys.specs.Texts.{Invalid}
use Rattle.iscsi_login.specs.Offers.{negotiated_within}
use Rattle.iscsi_login.proofs.Items.{negotiated_item, negotiated_behind, negotiated_ends}
use Rattle.iscsi_login.proofs.offers.negotiated_by.Goals as goal

pub returns-in-Invalid : goal.returns-in-Invalid
returns-in-Invalid c =
    sym (negotiated_item (length c.args.text.now + 1) c.items.counter c.items.negotiation c.items.left.now (Invalid c.in-Invalid.field-0) c.items-test.true c.in-Invalid.ensures.item)
    ∙ c.items.invariant

pub returns-in-Err : goal.returns-in-Err
returns-in-Err c =
    ap Err c.fault_status.ensures
    ∙ sym (negotiated_ends (length c.args.text.now + 1) c.items.counter c.items.negotiation c.items.left.now _ _ _ c.in-Err.fault c.items-test.true c.in-Pair.ensures.item (sym c.in-Err.ensures.answer))
    ∙ c.items.invariant

pub items-preserved : goal.items-preserved
items-preserved c =
    ap (λ n. negotiated_within (length c.args.text.now + 1 - (c.items.counter + 1)) n c.in-Pair.rest.now) c.in-Ok.ensures.state
    ∙ sym (negotiated_behind (length c.args.text.now + 1) c.items.counter c.items.negotiation c.items.left.now _ _ _ c.in-Ok.field-0 c.items-test.true c.in-Pair.ensures.item (sym c.in-Ok.ensures.answer))
    ∙ c.items.invariant
