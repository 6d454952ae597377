use Rattle.std.proofs.Common.{◌≡◌, ◌++◌, map, take}
use Rattle.explanations.specs.Words.{printable}
use Rattle.explanations.proofs.words.write_printable.Given as goal

abbrev pub invariant-loop-byte : goal.invariant-loop-byte
invariant-loop-byte l = l.line.items ≡ l.initial.line.items ++ map printable (take l.byte-index l.bytes)
