use Rattle.std.proofs.Common.{◌≡◌, ◌++◌, length}
use Rattle.hex.specs.Hex.{encode_lower}
use Rattle.explanations.proofs.hex_text.write_many.Given as goal

abbrev pub invariant-runs : goal.invariant-runs
invariant-runs l = l.text.items ++ encode_lower l.rest ≡ l.fn.text.items ++ encode_lower l.bytes

abbrev pub decreases-runs : goal.decreases-runs
decreases-runs l = length l.rest
