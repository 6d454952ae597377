use Rattle.std.proofs.Common.{◌+◌, ◌*◌, ◌≤◌, length, refl, arith, lit≤}
use Rattle.script_input.proofs.laws.worked_rows.Goals as goal

pub returns-clause-inputs : goal.returns-clause-inputs
returns-clause-inputs c = record {
  empty = record { consumed = refl; ended = refl; bounded = lit≤ tt };
  one_word = record { consumed = refl; ended = refl; bounded = lit≤ tt };
  no_read = λ left left' input h. let b : length input + 65536 ≤ 65536 * 0 = h.bounded in absurd (omega (arith, b));
  one_read = λ left left' byte h. let b : 1 + 65536 ≤ 65536 * 1 = h.bounded in absurd (omega (arith, b));
  longer = λ left left' input long h. let b : length input + 65536 ≤ 65536 * 2 = h.bounded in absurd (omega (arith, b, long));
  byte_left = λ h. absurd cc;
  byte_dropped = λ h. absurd cc;
}
