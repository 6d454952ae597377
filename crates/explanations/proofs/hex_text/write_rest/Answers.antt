use Rattle.std.proofs.Common.{◌++◌, ap, ◌∙◌}
use Rattle.explanations.proofs.HexLines.{block_begins}
use Rattle.explanations.proofs.hex_text.write_rest.Goals as goal

pub returns : goal.returns
returns c =
    c.in_ok-extend_from_slice.ensures.items
    ∙ ap (λ l. c.args.text.now.items ++ l) (block_begins c.args.bytes.now _ c.begin_with.new.block c.digits_of_block.result c.begin_with.ensures c.digits_of_block.ensures)
