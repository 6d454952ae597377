use Rattle.std.proofs.Common.{[], Some, ap, arith, refl, ◌∙◌}
use Rattle.hex.specs.Hex.{decode_of}
use Rattle.script_lines.specs.Words.{behind, hex_bytes}
use Rattle.script_lines.proofs.BlockLemmas.{block_fails, both_copied, first_read, none_read}
use Rattle.script_lines.proofs.digits.bytes_of_blocks.Goals as goal

pub returns-in_default : goal.returns-in_default
returns-in_default c =
    block_fails [] c.args.blocks.now _ _ (hex_bytes (decode_of c.args.blocks.now)) c.split_at.ensures.by_index.0 (omega arith) (omega arith) (omega arith) c.in_default.ensures (none_read _)

pub returns-in_default-bytes_of_block : goal.returns-in_default-bytes_of_block
returns-in_default-bytes_of_block c =
    ap (behind c.in-Some.first) c.in_default-bytes_of_block.ensures
    ∙ first_read c.args.blocks.now _ _ _ c.split_at.ensures.by_index.0 (omega arith) (omega arith) (omega arith) c.in-Some.ensures

pub returns : goal.returns
returns c =
    let first = c.in-Some.first in
    let second = c.in-Some-bytes_of_block.second in
    let copied = both_copied _ first second _ _ refl (omega arith) c.copy_from_slice.ensures.after c.copy_from_slice-2.ensures.after in
    ap Some copied ∙ ap (behind first) c.in-Some-bytes_of_block.ensures
    ∙ first_read c.args.blocks.now _ _ _ c.split_at.ensures.by_index.0 (omega arith) (omega arith) (omega arith) c.in-Some.ensures
