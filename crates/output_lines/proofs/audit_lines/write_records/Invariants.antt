use Rattle.std.proofs.Common.{◌≡◌, ◌++◌, take}
use Rattle.std.specs.Prelude.{string_bytes}
use Rattle.output_lines.specs.AuditLines.{lines_of_records}
use Rattle.output_lines.proofs.audit_lines.write_records.Given as goal

abbrev pub invariant-loop-entry : goal.invariant-loop-entry
invariant-loop-entry l = string_bytes l.text ≡ string_bytes l.initial.text ++ lines_of_records (take l.entry-index l.entries)
