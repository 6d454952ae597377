use Rattle.std.proofs.Common.{◌≡◌, ◌+◌, ◌≤◌, suc, length}
use Rattle.std.specs.Prelude.{MatchOption}
use Rattle.std.specs.Option.{option_map_or}
use Rattle.script_lines.specs.Lines.{line_in}
use Rattle.script_lines.specs.Text.{pieces_after}
use Rattle.script_lines.specs.Script.{saids, with_front, lines_in, script_in}
use Rattle.script_lines.proofs.script.events_of.Given as goal

abbrev pub invariant-lines : goal.invariant-lines
invariant-lines l = record {
  known : with_front (saids l.events) (lines_in (line_in l.profile) (l.number + 1) (pieces_after 10 l.rest)) ≡ script_in l.profile l.text;
  counted : MatchOption l.rest (Unit {0}) (λ rest. l.number + length rest.now ≤ length l.text);
}

abbrev pub decreases-lines : goal.decreases-lines
decreases-lines l = option_map_or (λ rest. suc (length rest.now)) l.rest 0
