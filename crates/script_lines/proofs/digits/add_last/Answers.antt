use Rattle.std.proofs.Common.{arith, refl}
use Rattle.script_lines.proofs.BlockLemmas.{block_read, block_fails}
use Rattle.script_lines.proofs.digits.add_last.Goals as goal

pub returns-in_default : goal.returns-in_default
returns-in_default c = block_fails _ c.args.digits.now _ _ _ c.split_at.ensures.by_index.0 (omega arith) (omega arith) c.requires.even c.in_default.ensures refl

pub returns : goal.returns
returns c =
    let whole = block_read _ _ c.args.digits.now _ _ _ _ c.split_at.ensures.by_index.0 (omega arith) (omega arith) c.requires.even c.in-Some.ensures c.in_ok-extend_from_slice.ensures.items refl in
    rw (← whole) c.add_rest-2.ensures
