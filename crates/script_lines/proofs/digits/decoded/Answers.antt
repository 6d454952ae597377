use Rattle.std.proofs.Common.{arith}
use Rattle.script_lines.proofs.BlockLemmas.{none_read, block_read, block_fails}
use Rattle.script_lines.proofs.digits.decoded.Goals as goal

pub pieces-init : goal.pieces-init
pieces-init c = (rw c.in_ok-bytes.ensures.items (none_read _), c.requires)

pub pieces-preserved : goal.pieces-preserved
pieces-preserved c =
    (block_read _ _ c.pieces.rest.now _ _ _ _ c.split_at.ensures.by_index.0 (omega arith) (omega arith) c.pieces.invariant.1 c.in-Some.ensures c.in_ok-extend_from_slice.ensures.items c.pieces.invariant.0, omega arith)

pub returns-in_default : goal.returns-in_default
returns-in_default c = block_fails _ c.pieces.rest.now _ _ _ c.split_at.ensures.by_index.0 (omega arith) (omega arith) c.pieces.invariant.1 c.in_default.ensures c.pieces.invariant.0

pub returns : goal.returns
returns c = rw (← c.pieces.invariant.0) c.add_last.ensures
