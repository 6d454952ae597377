use Rattle.std.proofs.Common.{◌≡◌, ◌++◌, map, drop, string_bytes}
use Rattle.logical_unit.specs.Audit.{span_lines, AreReplayable}
use Rattle.logical_unit.proofs.audit.span_lines.Given as goal

-- the lines so far and those of the records that are left are those of all, and what is left can be carried out again
abbrev pub invariant-loop-entry : goal.invariant-loop-entry
invariant-loop-entry l = record {
  told : map string_bytes l.lines.items ++ span_lines l.reservations (drop l.entry-index l.entries) ≡ span_lines l.fn.base l.fn.entries;
  replay : AreReplayable l.reservations (drop l.entry-index l.entries);
}
