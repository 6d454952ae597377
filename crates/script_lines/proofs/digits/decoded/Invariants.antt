use Rattle.std.proofs.Common.{◌≡◌, ◌%◌, length}
use Rattle.hex.specs.Hex.{decode_of}
use Rattle.script_lines.specs.Words.{behind, hex_bytes}
use Rattle.script_lines.proofs.digits.decoded.Given as goal

abbrev pub invariant-pieces : goal.invariant-pieces
invariant-pieces l = (behind l.bytes.items (hex_bytes (decode_of l.rest)) ≡ hex_bytes (decode_of l.word)) × (length l.rest % 2 ≡ 0)

abbrev pub decreases-pieces : goal.decreases-pieces
decreases-pieces l = length l.rest
