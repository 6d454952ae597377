use Rattle.std.proofs.Common.{◌≡◌, ◌++◌, take, string_bytes}
use Rattle.std.specs.List.{flat_map}
use Rattle.metrics_text.specs.Server.{failing_line}
use Rattle.metrics_text.proofs.server.write_failing_lines.Given as goal

abbrev pub invariant-loop-tag : goal.invariant-loop-tag
invariant-loop-tag l = string_bytes l.text ≡ string_bytes l.initial.text ++ flat_map failing_line (take l.tag-index l.tags)
