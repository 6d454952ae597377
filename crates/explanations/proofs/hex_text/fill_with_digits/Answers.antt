use Rattle.std.proofs.Common.{◌≡◌, ◌+◌, ◌-◌, ◌*◌, take, drop, refl, ap, ◌∙◌, arith}
use Rattle.hex.specs.Hex.{encode_with, encode_lower}
use Rattle.explanations.proofs.HexLines.{filled, filled_more}
use Rattle.explanations.proofs.hex_text.fill_with_digits.Goals as goal

pub places-init : goal.places-init
unfolding encode_with
places-init c = refl

pub places-preserved : goal.places-preserved
places-preserved c =
    let bytes = c.args.bytes.now in
    let at = c.places.k * 32 in
    let size : at + 32 - at ≡ 32 = omega arith in
    filled_more c.places.room _ bytes at ((c.places.k + 1) * 32) (c.digits_of_block-digits.ensures ∙ ap (λ n. encode_lower (take n (drop at bytes))) size)
    (omega arith) (omega arith) (omega arith) c.places.invariant

pub returns : goal.returns
returns c = filled c.places.room c.args.bytes.now (c.places.k * 32) (omega arith) (omega arith) c.places.invariant
