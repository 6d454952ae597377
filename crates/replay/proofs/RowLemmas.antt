-- The worked rows.
use Rattle.std.proofs.Common.{[], ◌∷◌, ◌++◌, Some, inr, refl, lit<, lit≤}
use Rattle.std.specs.Fmt.{char_count, digits, padded_integral}
use Rattle.std.specs.Prelude.{codes}
use Rattle.hex.specs.Hex.{encode_with}
use Rattle.tape_medium.specs.Elements.{empty_elements}
use Rattle.audit_log.specs.Lines.{line_of}
use Rattle.device_server.specs.HostChanger.{spec_changer}
use Rattle.device_server.specs.View.{Changer, profile_of}
use Rattle.logical_unit.specs.Step.{made, resets, event_reply}
use Rattle.target_core.specs.declared.event.Event.TheVariants as event
use Rattle.explanations.specs.Explanation.{explanation}
use Rattle.output_lines.specs.Replies.{answer_line}
use Rattle.script_lines.specs.Text.{pieces}
use Rattle.script_lines.specs.Words.{unit_in}
use Rattle.script_lines.specs.Lines.{line_in}
use Rattle.script_lines.specs.Script.{events_in}
use Rattle.replay.specs.Replay.{HasRun}
use Rattle.replay.specs.Rows.{FaultsTold, FaultsInOrder, target, reset, line, ReplaysRun}

pub faults_told : FaultsTold
unfolding digits padded_integral char_count
faults_told = record {
  line_status = refl;
  memory_status = refl;
  read_status = refl;
  write_status = refl;
  line = refl;
  memory = refl;
  read = refl;
  write = refl;
}

pub faults_in_order : FaultsInOrder
faults_in_order = record {
  line_before_run = tt;
  read_before_run = tt;
  memory_at_any_time = λ h. h;
  write_after_run = λ h. h;
  line_before_output = tt;
  memory_before_output = tt;
  read_before_output = tt;
  write_is_output = λ h. h;
}

ran : HasRun 2 (Some (line (codes "reset 0"))) (Some []) (target []) (target (reset ∷ []))
unfolding events_in line_in pieces unit_in profile_of
ran = record {
  input = line (codes "reset 0");
  events = event.Reset 0 ∷ [];
  replies = event_reply 1 ∷ [];
  whole = record { consumed = refl; ended = refl; bounded = lit≤ tt };
  script = refl;
  run = (target (reset ∷ []), record { unit = resets (made (Changer (spec_changer (empty_elements 1 0 8))) 0 2 0); step = inr (1, (lit< tt, refl), refl); units = refl }, refl);
}

pub replays_run : ReplaysRun
unfolding ran events_in line_in pieces unit_in profile_of digits padded_integral char_count answer_line explanation line_of encode_with
replays_run = record { replies = record { ran = ran; lines = refl }; explained = record { ran = ran; lines = refl }; records = record { ran = ran; lines = refl }; refused = record { input = line (codes "reset 0") ++ codes "reset x"; whole = record { consumed = refl; ended = refl; bounded = lit≤ tt }; script = refl } }
