use Rattle.std.proofs.Common.{◌≡◌, ◌++◌, take}
use Rattle.std.specs.List.{flat_map}
use Rattle.std.specs.Prelude.{string_bytes}
use Rattle.metrics_text.specs.Words.{escaped}
use Rattle.metrics_text.proofs.line.write_escaped.Given as goal

abbrev pub invariant-loop-byte : goal.invariant-loop-byte
invariant-loop-byte l = string_bytes l.text ≡ string_bytes l.initial.text ++ flat_map escaped (take l.byte-index l.bytes)
