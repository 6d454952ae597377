use Rattle.explanations.proofs.HexLines.{one_block}
use Rattle.explanations.proofs.hex_text.write_many.Goals as goal

pub runs-preserved : goal.runs-preserved
runs-preserved c =
    one_block _ _ _ c.runs.rest.now _ _ c.split_at.ensures.by_index.0 c.in_ok-write_blocks.ensures c.runs.invariant

pub returns : goal.returns
returns c = rw (← c.runs.invariant) c.write_few.ensures
