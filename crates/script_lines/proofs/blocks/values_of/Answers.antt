use Rattle.std.proofs.Common.{ℕ, refl}
use Rattle.std.proofs.lemmas.Simd.{zip2_of_maps, zip2_splat, splat_is_map}
use Rattle.hex.specs.Hex.{is_hex_digit}
use Rattle.script_lines.specs.Words.{digit_value, is_small}
use Rattle.script_lines.proofs.Lanes.{chosen, chosen_pass, selected}
use Rattle.script_lines.proofs.blocks.values_of.Goals as goal

pub returns-clause-values : goal.returns-clause-values
returns-clause-values c digits =
    let v = c.args.lanes in
    let long = c.fits-lanes.0 in
    chosen is_hex_digit digit_value v c.fits-lanes.1 digits _ _ _
    (zip2_of_maps _ _ _ v
    (zip2_of_maps _ _ _ v
    (zip2_of_maps _ _ _ v
    (selected v _ _ _ (zip2_of_maps _ _ _ v (zip2_splat {Y = ℕ} _ v 64 _ long) (splat_is_map v 64 _ long)) (splat_is_map v 64 _ long) (zip2_splat {Y = ℕ} _ v 64 _ long))
    (splat_is_map v 64 _ long)) (splat_is_map v 64 _ long))
    (zip2_of_maps _ _ _ v (zip2_of_maps _ _ _ v (zip2_splat {Y = ℕ} _ v 64 _ long) (splat_is_map v 64 _ long)) (splat_is_map v 64 _ long)))
    (zip2_of_maps _ _ _ v
    (zip2_of_maps _ _ _ v
    (selected v _ _ _ (zip2_of_maps _ _ _ v (zip2_splat {Y = ℕ} _ v 64 _ long) (splat_is_map v 64 _ long)) (splat_is_map v 64 _ long) (zip2_splat {Y = ℕ} _ v 64 _ long))
    (splat_is_map v 64 _ long)) (splat_is_map v 64 _ long))
    (zip2_of_maps _ _ _ v (zip2_of_maps _ _ _ v (zip2_splat {Y = ℕ} _ v 64 _ long) (splat_is_map v 64 _ long)) (splat_is_map v 64 _ long)) refl

pub returns-clause-others : goal.returns-clause-others
returns-clause-others c =
    let v = c.args.lanes in
    let long = c.fits-lanes.0 in
    chosen_pass is_small is_hex_digit v c.fits-lanes.1 _ _ _
    (zip2_of_maps _ _ _ v
    (zip2_of_maps _ _ _ v
    (zip2_of_maps _ _ _ v
    (selected v _ _ _ (zip2_of_maps _ _ _ v (zip2_splat {Y = ℕ} _ v 64 _ long) (splat_is_map v 64 _ long)) (splat_is_map v 64 _ long) (zip2_splat {Y = ℕ} _ v 64 _ long))
    (splat_is_map v 64 _ long)) (splat_is_map v 64 _ long))
    (zip2_of_maps _ _ _ v (zip2_of_maps _ _ _ v (zip2_splat {Y = ℕ} _ v 64 _ long) (splat_is_map v 64 _ long)) (splat_is_map v 64 _ long)))
    (zip2_of_maps _ _ _ v
    (zip2_of_maps _ _ _ v
    (selected v _ _ _ (zip2_of_maps _ _ _ v (zip2_splat {Y = ℕ} _ v 64 _ long) (splat_is_map v 64 _ long)) (splat_is_map v 64 _ long) (zip2_splat {Y = ℕ} _ v 64 _ long))
    (splat_is_map v 64 _ long)) (splat_is_map v 64 _ long))
    (zip2_of_maps _ _ _ v (zip2_of_maps _ _ _ v (zip2_splat {Y = ℕ} _ v 64 _ long) (splat_is_map v 64 _ long)) (splat_is_map v 64 _ long)) refl
