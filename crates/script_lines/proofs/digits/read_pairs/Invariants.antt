use Rattle.std.proofs.Common.{◌≡◌, ◌*◌, take, drop}
use Rattle.hex.specs.Hex.{decode_pairs}
use Rattle.hex.proofs.Pairs.{prepend}
use Rattle.script_lines.proofs.digits.read_pairs.Given as goal

abbrev pub invariant-pairs : goal.invariant-pairs
invariant-pairs l = decode_pairs 0 l.word ≡ prepend (take l.place l.room) (decode_pairs (2 * l.place) (drop (2 * l.place) l.word))
