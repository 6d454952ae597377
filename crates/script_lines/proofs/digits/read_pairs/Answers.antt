use Rattle.std.proofs.Common.{arith}
use Rattle.hex.proofs.Pairs.{decode_start}
use Rattle.script_lines.proofs.Pairs.{pair_read, stopped_high, stopped_low, all_read}
use Rattle.script_lines.proofs.digits.read_pairs.Goals as goal

pub pairs-init : goal.pairs-init
pairs-init c = decode_start c.args.word.now c.args.room.now

pub pairs-preserved : goal.pairs-preserved
pairs-preserved c =
    let high = c.in-Some.ensures in
    let low = c.in-Some-read_digit.ensures in
    pair_read _ _ c.pairs.place c.in-Some.high c.in-Some-read_digit.low (omega arith) (omega arith) high.value low.value c.pairs.invariant

pub returns-in_default : goal.returns-in_default
returns-in_default c = stopped_high _ _ c.pairs.place (omega arith) (omega arith) c.in_default.ensures.value c.pairs.invariant

pub returns-in_default-read_digit : goal.returns-in_default-read_digit
returns-in_default-read_digit c = stopped_low _ _ c.pairs.place c.in-Some.high (omega arith) (omega arith) c.in-Some.ensures.value c.in_default-read_digit.ensures.value c.pairs.invariant

pub returns : goal.returns
returns c = all_read _ _ c.pairs.place (omega arith) (omega arith) (omega arith) c.pairs.invariant
