use Rattle.std.proofs.Common.{refl, ◌∙◌, arith}
use Rattle.script_lines.proofs.Lanes.{all_below_number, halves, halves_small}
use Rattle.script_lines.proofs.blocks.are_small.Goals as goal

pub returns : goal.returns
returns c =
    let v = c.args.values in
    all_below_number (halves 16 (halves 32 v)) 16 16 refl (omega arith) ∙ halves_small 16 (halves 32 v) refl tt tt ∙ halves_small 32 v c.fits-values.0 tt tt
