use Rattle.std.proofs.Common.{ℕ, refl}
use Rattle.std.proofs.lemmas.Simd.{zip2_of_maps, zip2_splat, splat_is_map}
use Rattle.hex.specs.Hex.{is_hex_digit}
use Rattle.script_lines.specs.Words.{digit_value}
use Rattle.script_lines.proofs.Lanes.{chosen}
use Rattle.script_lines.proofs.sixteen.values_of.Goals as goal

pub returns : goal.returns
returns c =
    let v = c.args.digits in
    let long = c.fits-digits.0 in
    chosen is_hex_digit digit_value v c.fits-digits.1 c.requires _ _ _
    (zip2_of_maps _ _ _ v (zip2_splat {Y = ℕ} _ v 16 _ long) (splat_is_map v 16 _ long))
    (zip2_splat {Y = ℕ} _ v 16 _ long)
    (zip2_of_maps _ _ _ v (zip2_splat {Y = ℕ} _ v 16 _ long) (splat_is_map v 16 _ long)) refl
