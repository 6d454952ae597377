use Rattle.std.proofs.Common.{◌≡◌, ◌++◌, take}
use Rattle.std.specs.Prelude.{string_bytes}
use Rattle.logical_unit.specs.UnitView.{units_of}
use Rattle.output_lines.specs.AuditLines.{lines_of_units}
use Rattle.output_lines.proofs.audit_lines.write_units.Given as goal

abbrev pub invariant-loop-unit : goal.invariant-loop-unit
invariant-loop-unit g l = string_bytes l.text ≡ string_bytes l.initial.text ++ lines_of_units (units_of (take l.unit-index l.units))
