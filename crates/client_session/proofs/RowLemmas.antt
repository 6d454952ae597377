-- The worked rows, by computing.
use Rattle.std.proofs.Common.{[], ◌∷◌, ◌++◌, replicate, Some, refl}
use Rattle.std.specs.Fmt.{char_count, digits, padded_integral}
use Rattle.hex.specs.Hex.{encode_with, decode_pairs}
use Rattle.scsi_sense.specs.Conditions.{sense_for}
use Rattle.scsi_sense.specs.declared.condition.Condition.TheVariants.{PowerOnOrResetOccurred}
use Rattle.scsi_sense.specs.declared.status.Status.TheVariants.{CheckCondition}
use Rattle.frames.specs.declared.reply_frame.LoginAnswer.TheVariants.{Accepted}
use Rattle.frames.specs.Replies.{LoginReply, CommandReply, LogoutReply}
use Rattle.frames.specs.ParsedReplies.{parsed_reply_body, parsed_reply}
use Rattle.frames.specs.Rows.{first_contact}
use Rattle.scsi_cdb.specs.Commands.{command_of}
use Rattle.explanations.specs.Explanation.{explanation}
use Rattle.explanations.specs.Reservations.{generation_text, listed, registration_text}
use Rattle.explanations.specs.Words.{cut, count_text, number_text}
use Rattle.output_lines.specs.Replies.{answer_line}
use Rattle.script_lines.specs.Requests as host
use Rattle.script_lines.specs.Requests.{request_line_in}
use Rattle.script_lines.specs.Text.{pieces}
use Rattle.script_lines.specs.Words.{unit_in, hex_in}
use Rattle.client_session.specs.Rows.{FaultsTold, RepliesTold, SessionTold, replies}

pub faults_told : FaultsTold
unfolding digits padded_integral char_count encode_with
faults_told = record {
  line_status = refl;
  memory_status = refl;
  refused_status = refl;
  reply_status = refl;
  read_status = refl;
  write_status = refl;
  line = refl;
  memory = refl;
  refused = refl;
  short = refl;
  reply = refl;
  read = refl;
  write = refl;
  line_before = λ h. h;
  memory_at_any_time = λ h. h;
}

pub replies_told : RepliesTold
unfolding answer_line explanation command_of generation_text listed registration_text cut encode_with digits padded_integral
    char_count count_text number_text
replies_told = record {
  sense = refl;
  payload = refl;
  conflict = refl;
  reset = refl;
  login = refl;
  logout = refl;
  reset_said = refl;
  keys_said = refl;
  login_said = refl;
  session = refl;
  accepted = refl;
  already_connected = λ h. absurd cc;
  reset_for_a_command = λ h. h;
  command_for_a_reset = λ h. h;
  one_missing = λ h. h.1;
  one_more = λ h. h.1;
  other_order = λ h. h.0;
}

pub session_told : SessionTold
unfolding request_line_in pieces unit_in hex_in decode_pairs parsed_reply parsed_reply_body answer_line encode_with
session_told = record {
  sent = refl;
  whole = record {
    requests = host.Command 0 (replicate 6 0) [] ∷ [];
    rest = [];
    script = refl;
    talked = record {
      read = replies;
      replies = LoginReply Accepted ∷ CommandReply CheckCondition (Some (sense_for PowerOnOrResetOccurred)) 1 [] ∷ LogoutReply ∷ [];
      consumed = refl;
      told = (
        0 ∷ 0 ∷ 0 ∷ 2 ∷ 0x81 ∷ 0 ∷ [],
        first_contact ++ 0 ∷ 0 ∷ 0 ∷ 1 ∷ 0x84 ∷ [],
        refl,
        refl,
        (first_contact, 0 ∷ 0 ∷ 0 ∷ 1 ∷ 0x84 ∷ [], refl, refl, (0 ∷ 0 ∷ 0 ∷ 1 ∷ 0x84 ∷ [], [], refl, refl, refl)),
      );
      answered = (refl, (tt, (tt, tt)));
      sent = refl;
      lines = refl;
    };
  };
}
