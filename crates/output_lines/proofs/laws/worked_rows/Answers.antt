use Rattle.std.proofs.Common.{refl}
use Rattle.std.specs.Fmt.{char_count, digits, padded_integral}
use Rattle.hex.specs.Hex.{encode_with}
use Rattle.audit_log.specs.Lines.{line_of}
use Rattle.scsi_cdb.specs.Commands.{command_of}
use Rattle.explanations.specs.ElementWords.{elements_in, elements_text}
use Rattle.explanations.specs.Explanation.{explanation}
use Rattle.explanations.specs.Reservations.{generation_text, listed, registration_text}
use Rattle.explanations.specs.Senses.{condition_with, key_with, mark_text, sense_text}
use Rattle.explanations.specs.Words.{cut, count_text, number_text}
use Rattle.output_lines.specs.Replies.{answer_line}
use Rattle.output_lines.proofs.laws.worked_rows.Goals as goal

pub returns-clause-replies : goal.returns-clause-replies
unfolding answer_line encode_with
returns-clause-replies c = record {
  status_alone = refl;
  busy = refl;
  conflict = refl;
  sense = refl;
  payload = refl;
  both = refl;
  two = refl;
  none = refl;
}

pub returns-clause-explained : goal.returns-clause-explained
unfolding answer_line explanation sense_text mark_text key_with condition_with elements_text elements_in command_of generation_text listed
    registration_text cut encode_with digits padded_integral char_count count_text number_text
returns-clause-explained c = record { off = refl; good = refl; sense = refl; told = refl; changer = refl; drive = refl }

pub returns-clause-records : goal.returns-clause-records
unfolding line_of digits padded_integral char_count
returns-clause-records c = record { off = refl; lines = refl; spans = refl }
