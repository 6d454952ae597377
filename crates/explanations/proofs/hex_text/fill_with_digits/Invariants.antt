use Rattle.std.proofs.Common.{◌≡◌, ◌*◌, take}
use Rattle.hex.specs.Hex.{encode_lower}
use Rattle.explanations.proofs.hex_text.fill_with_digits.Given as goal

abbrev pub invariant-places : goal.invariant-places
invariant-places l = take (2 * (l.k * 32)) l.room ≡ encode_lower (take (l.k * 32) l.fn.bytes)
