use Rattle.std.proofs.Common.{rules, ◌≡◌, ◌+◌, ◌++◌, length, refl}
use Rattle.iscsi_keys.specs.Texts.{End, Invalid}
use Rattle.iscsi_answers.specs.Texts.{text_item, target_items}
use Rattle.iscsi_answers.proofs.Answered.{all_answered, one_answered}
use Rattle.iscsi_answers.proofs.text.write_text_answers.Goals as goal

pub returns-in-End : goal.returns-in-End
returns-in-End c =
    all_answered (length c.args.text.now + 1) c.items.counter c.args.discovery _ _ c.items.out.items c.items.left.now _ End c.items-test.true c.in-End.ensures.item refl c.items.invariant

pub returns-in-Invalid : goal.returns-in-Invalid
returns-in-Invalid c =
    all_answered (length c.args.text.now + 1) c.items.counter c.args.discovery _ _ c.items.out.items c.items.left.now _ (Invalid c.in-Invalid.field-0) c.items-test.true c.in-Invalid.ensures.item refl c.items.invariant

pub items-preserved : goal.items-preserved
items-preserved c =
    let p = c.args.portals.now in
    let targets = target_items p.name.now p.group p.address.now p.all.now in
    let written : c.write_text_answer.new.out.items ≡ c.items.out.items ++ text_item c.args.discovery p.name.now targets c.in-Pair.key.now c.in-Pair.value.now = search rules in
    one_answered (length c.args.text.now + 1) c.items.counter c.args.discovery p.name.now targets c.items.out.items c.write_text_answer.new.out.items c.items.left.now
    c.in-Pair.key.now c.in-Pair.value.now c.in-Pair.rest.now _ c.items-test.true c.in-Pair.ensures.item written
    c.items.invariant
