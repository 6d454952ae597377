use Rattle.std.proofs.Common.{refl, w8}
use Rattle.std.proofs.lemmas.Simd.{below_from_Fits}
use Rattle.script_lines.proofs.BlockLemmas.{byte_of_lanes}
use Rattle.script_lines.proofs.blocks.bytes_of.Goals as goal

pub returns : goal.returns
returns c k lt =
    let v = c.args.values in
    byte_of_lanes v c.fits-values.0 (below_from_Fits w8 v c.fits-values.1) c.requires k lt _ refl
