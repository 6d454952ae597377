-- The worked rows, by computing.
use Rattle.std.proofs.Common.{refl}
use Rattle.std.specs.Fmt.{digits}
use Rattle.hex.specs.Hex.{decode_pairs}
use Rattle.script_lines.specs.Text.{pieces}
use Rattle.script_lines.specs.Words.{nexus_in, unit_in, hex_in}
use Rattle.script_lines.specs.Lines.{line_in}
use Rattle.script_lines.specs.Requests.{request_line_in}
use Rattle.script_lines.specs.Script.{events_in}
use Rattle.script_lines.specs.Rows.{LinesRead, LineFaults, ScriptsRead, RequestsRead}

pub lines_read : LinesRead
unfolding line_in pieces nexus_in unit_in hex_in decode_pairs
lines_read = record {
  empty = refl;
  comment = refl;
  command = refl;
  with_data = refl;
  longest_cdb = refl;
  loss = refl;
  reset = refl;
}

pub line_faults : LineFaults
unfolding line_in pieces nexus_in unit_in hex_in decode_pairs
line_faults = record {
  too_long = λ line h. rw h refl;
  too_long_for_hosts = λ line h. rw h refl;
  one_word = refl;
  two_words = refl;
  five_words = refl;
  loss_of_four_words = refl;
  reset_of_three_words = refl;
  short_address = refl;
  no_hexadecimal_address = refl;
  port_0 = refl;
  port_5 = refl;
  no_dot = refl;
  upper_case_loss = refl;
  nexus_first = refl;
  unit_second = refl;
  unit_of_a_loss = refl;
  unit_of_a_reset = refl;
  leading_zero = refl;
  sign = refl;
  two_spaces = refl;
  odd_digits = refl;
  no_hexadecimal = refl;
  cdb_of_17_bytes = refl;
  empty_data = refl;
  carriage_return = refl;
}

pub scripts_read : ScriptsRead
unfolding events_in line_in pieces unit_in digits
scripts_read = record {
  empty = refl;
  two_lines = refl;
  ended_lines = refl;
  third_line = refl;
  first_fault = refl;
  told = refl;
  told_of_memory = refl;
}

pub requests_read : RequestsRead
unfolding request_line_in pieces unit_in hex_in decode_pairs
requests_read = record {
  empty = refl;
  comment = refl;
  command = refl;
  with_data = refl;
  reset = refl;
  too_long = λ line h. rw h refl;
  too_long_for_hosts = λ line h. rw h refl;
  one_word = refl;
  four_words = refl;
  bare_reset = refl;
  reset_of_three_words = refl;
  loss = refl;
  nexus = refl;
  unit_first = refl;
  unit_of_a_reset = refl;
  two_spaces = refl;
  odd_digits = refl;
  cdb_of_17_bytes = refl;
  empty_data = refl;
  script = refl;
  third_line = refl;
  first_fault = refl;
}
