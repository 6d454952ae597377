use Rattle.explanations.proofs.HexLines.{one_block}
use Rattle.explanations.proofs.hex_text.write_few.Goals as goal

pub pieces-preserved : goal.pieces-preserved
pieces-preserved c =
    one_block _ _ _ c.pieces.rest.now _ _ c.split_at.ensures.by_index.0 c.in_ok-write_blocks.ensures c.pieces.invariant

pub returns : goal.returns
returns c = rw (← c.pieces.invariant) c.write_rest.ensures
