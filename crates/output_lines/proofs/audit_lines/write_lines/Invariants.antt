use Rattle.std.proofs.Common.{◌≡◌, ◌++◌, map, take}
use Rattle.std.specs.Prelude.{string_bytes}
use Rattle.output_lines.specs.AuditLines.{text_of_lines}
use Rattle.output_lines.proofs.audit_lines.write_lines.Given as goal

abbrev pub invariant-loop-line : goal.invariant-loop-line
invariant-loop-line l = string_bytes l.text ≡ string_bytes l.initial.text ++ text_of_lines (map string_bytes (take l.line-index l.lines))
