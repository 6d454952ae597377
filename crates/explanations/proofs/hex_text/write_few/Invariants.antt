use Rattle.std.proofs.Common.{◌≡◌, ◌++◌, length}
use Rattle.hex.specs.Hex.{encode_lower}
use Rattle.explanations.proofs.hex_text.write_few.Given as goal

abbrev pub invariant-pieces : goal.invariant-pieces
invariant-pieces l = l.text.items ++ encode_lower l.rest ≡ l.fn.text.items ++ encode_lower l.bytes

abbrev pub decreases-pieces : goal.decreases-pieces
decreases-pieces l = length l.rest
