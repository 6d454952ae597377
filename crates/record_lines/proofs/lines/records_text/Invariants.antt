use Rattle.std.proofs.Common.{◌≡◌, ◌++◌, drop, string_bytes}
use Rattle.std.specs.Prelude.{option_map}
use Rattle.record_lines.specs.Lines.{lines_of}
use Rattle.record_lines.specs.Standing.{states_after}
use Rattle.record_lines.proofs.lines.records_text.Given as goal

-- the lines so far and those of the records that are left are those of all
abbrev pub invariant-entries : goal.invariant-entries
invariant-entries l = record {
  told : string_bytes l.text ++ lines_of l.fn.context.format (option_map (λ t. t.now) l.fn.context.time) l.fn.context.unit l.fn.context.names.now l.standing (drop l.entry-index l.entries)
      ≡ lines_of l.fn.context.format (option_map (λ t. t.now) l.fn.context.time) l.fn.context.unit l.fn.context.names.now l.initial.reservations l.entries;
  after : states_after l.standing (drop l.entry-index l.entries) ≡ states_after l.initial.reservations l.entries;
  same : l.reservations ≡ l.initial.reservations;
}
