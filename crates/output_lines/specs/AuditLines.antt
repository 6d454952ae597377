-- The lines of the units' records, which follow the lines of the replies.
use Rattle.std.specs.Prelude.{ℕ, List, [], ◌∷◌, ◌++◌}
use Rattle.std.specs.List.{flat_map}
use Rattle.audit_log.specs.Lines.{line_of}
use Rattle.audit_log.specs.declared.record.Record.{Record}
use Rattle.logical_unit.specs.Audit.{audit_of}
use Rattle.logical_unit.specs.UnitView.{UnitView}
use Rattle.output_lines.specs.declared.audit_lines.Audit.{Audit}
use Rattle.output_lines.specs.declared.audit_lines.Audit.TheVariants.{Off, Lines, Spans}

-- a record's line, with its line feed
abbrev pub audit_line : Record → List ℕ
audit_line entry = line_of entry ++ 10 ∷ []

-- a line for each record
abbrev pub lines_of_records : List Record → List ℕ
lines_of_records entries = flat_map audit_line entries

-- those of each unit, in the order of the logical unit numbers
abbrev pub lines_of_units : List UnitView → List ℕ
lines_of_units us = flat_map (λ u. lines_of_records u.records) us

-- lines, each with its line feed
abbrev pub text_of_lines : List (List ℕ) → List ℕ
text_of_lines lines = flat_map (λ line. line ++ 10 ∷ []) lines

-- with the reservation that stood before each record
abbrev pub spans_of_units : List UnitView → List ℕ
spans_of_units us = flat_map (λ u. text_of_lines (audit_of u)) us

-- what follows the reply lines
abbrev pub audit_text : Audit → List UnitView → List ℕ
audit_text Off us = []
audit_text Lines us = lines_of_units us
audit_text Spans us = spans_of_units us
