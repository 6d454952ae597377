use Rattle.std.proofs.Common.{rules, ◌≡◌, ◌<◌, ◌≤◌, length, drop, ap, arith}
use Rattle.std.proofs.lemmas.List.{length-drop}
use Rattle.std.proofs.lemmas.Bool.Decides.{nat_tests}
use Rattle.iscsi_answers.specs.DataIns.{segment_length}
use Rattle.iscsi_answers.proofs.Segments.{all_counted, one_counted}
use Rattle.iscsi_answers.proofs.data_in.count_data_ins.Goals as goal

pub returns-then-is_empty : goal.returns-then-is_empty
returns-then-is_empty c =
    let none : length c.segments.rest.now ≡ 0 = grind (arith, nat_tests) in
    all_counted (length c.args.bytes.now) c.segments.counter c.args.transfer.now c.segments.offset c.segments.data_ins c.segments.rest.now _ none c.segments.invariant.0

pub segments-preserved : goal.segments-preserved
segments-preserved c =
    let left = c.segments.rest.now in
    let whole = length c.args.bytes.now in
    let t = c.args.transfer.now in
    let some : 0 < length left = grind (arith, nat_tests) in
    let size : c.segment_length-count.result ≡ segment_length t.limits c.segments.offset (length left) = search rules in
    let next : c.split_at.result.1.now ≡ drop c.segment_length-count.result left = search rules in
    let short : c.segment_length-count.result ≤ length left = search rules in (
      one_counted whole c.segments.counter t c.segments.offset c.segments.data_ins c.segment_length-count.result left c.split_at.result.1.now _ c.segments-test.true some size next c.segments.invariant.0,
      omega (arith, ap length next, length-drop c.segment_length-count.result left, short, c.segments.invariant.1),
      omega arith,
    )
