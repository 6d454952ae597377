use Rattle.std.proofs.Common.{rules, ◌≡◌, ◌+◌, ◌++◌, length, refl}
use Rattle.std.specs.Result.{result_unwrap_or}
use Rattle.iscsi_keys.specs.Texts.{End, Invalid}
use Rattle.iscsi_keys.specs.Negotiations.{answered}
use Rattle.iscsi_keys.specs.declared.answer.KeyAnswer.TheVariants as answer
use Rattle.iscsi_login.specs.AnswerTexts.{answer_item}
use Rattle.iscsi_login.proofs.Written.{all_written, one_written}
use Rattle.iscsi_login.proofs.answers.write_offers.Goals as goal

pub returns-in-End : goal.returns-in-End
returns-in-End c =
    all_written (length c.args.text.now + 1) c.items.counter c.items.negotiation c.items.out.items c.items.left.now _ End c.items-test.true c.in-End.ensures.item refl c.items.invariant

pub returns-in-Invalid : goal.returns-in-Invalid
returns-in-Invalid c =
    all_written (length c.args.text.now + 1) c.items.counter c.items.negotiation c.items.out.items c.items.left.now _ (Invalid c.in-Invalid.field-0) c.items-test.true c.in-Invalid.ensures.item refl c.items.invariant

pub items-preserved : goal.items-preserved
items-preserved c =
    let answered_so : c.unwrap_or.result ≡ result_unwrap_or (answered c.items.negotiation c.in-Pair.key.now c.in-Pair.value.now) answer.Nothing = search rules in
    let written : c.write_answer.new.out.items ≡ c.items.out.items ++ answer_item c.items.negotiation.terms.method c.in-Pair.key.now c.unwrap_or.result = search rules in
    one_written (length c.args.text.now + 1) c.items.counter c.items.negotiation c.offer-answer.new.self c.items.out.items c.write_answer.new.out.items c.items.left.now
    c.in-Pair.key.now c.in-Pair.value.now c.in-Pair.rest.now _ c.unwrap_or.result c.items-test.true c.in-Pair.ensures.item c.offer-answer.ensures.state answered_so written
    c.items.invariant
