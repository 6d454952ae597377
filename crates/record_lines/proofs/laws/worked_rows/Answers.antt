use Rattle.std.proofs.Common.{refl}
use Rattle.std.specs.Fmt.{char_count, digits, padded_integral}
use Rattle.hex.specs.Hex.{encode_with}
use Rattle.record_lines.specs.Lines.{line_of}
use Rattle.record_lines.proofs.laws.worked_rows.Goals as goal

pub returns : goal.returns
unfolding line_of encode_with digits padded_integral char_count
returns c = record {
  lines = record { sense = refl; cell = refl; nobody = refl; text = refl; text_of_nobody = refl };
  counts = record { cell = refl; conflict = refl; no_cell = refl; nobody = refl; twice = refl; other = refl; largest = refl };
}
