use Rattle.std.proofs.Common.{ℕ, refl, arith}
use Rattle.std.proofs.lemmas.Simd.{zip2_of_maps, zip2_splat, splat_is_map}
use Rattle.hex.specs.Hex.{is_hex_digit}
use Rattle.script_lines.proofs.Lanes.{all_pass}
use Rattle.script_lines.proofs.sixteen.are_digits.Goals as goal

pub returns : goal.returns
returns c =
    let v = c.args.lanes in
    let long = c.fits-lanes.0 in
    all_pass is_hex_digit v _ 16 long (omega arith) c.fits-lanes.1 _
    (zip2_of_maps _ _ _ v
    (zip2_of_maps _ _ _ v (zip2_splat {Y = ℕ} _ v 16 _ long) (splat_is_map v 16 _ long))
    (zip2_of_maps _ _ _ v (zip2_of_maps _ _ _ v (zip2_splat {Y = ℕ} _ v 16 _ long) (splat_is_map v 16 _ long)) (splat_is_map v 16 _ long))) refl
