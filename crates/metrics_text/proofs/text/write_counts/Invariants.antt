use Rattle.std.proofs.Common.{◌≡◌, ◌++◌, take, string_bytes, map}
use Rattle.std.specs.List.{flat_map}
use Rattle.record_lines.specs.CountsSeen.{count_seen}
use Rattle.metrics_text.specs.Text.{count_line}
use Rattle.metrics_text.proofs.text.write_counts.Given as goal

abbrev pub invariant-loop-entry : goal.invariant-loop-entry
invariant-loop-entry l = string_bytes l.text ≡ string_bytes l.initial.text ++ flat_map count_line (map count_seen (take l.entry-index l.counts))
