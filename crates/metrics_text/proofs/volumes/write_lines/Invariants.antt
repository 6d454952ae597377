use Rattle.std.proofs.Common.{◌≡◌, ◌++◌, take, string_bytes}
use Rattle.std.specs.List.{flat_map}
use Rattle.metrics_text.specs.Volumes.{volume_lines}
use Rattle.metrics_text.proofs.volumes.write_lines.Given as goal

abbrev pub invariant-loop-unit : goal.invariant-loop-unit
invariant-loop-unit l = string_bytes l.text ≡ string_bytes l.initial.text ++ flat_map (volume_lines l.number) (take l.unit-index l.units)
