use Rattle.std.proofs.Common.{refl}
use Rattle.std.specs.Fmt.{char_count, digits, padded_integral}
use Rattle.library_server.proofs.laws.worked_rows.Goals as goal

-- the numbers of sessions, digit by digit
pub returns-clause-lines : goal.returns-clause-lines
unfolding digits padded_integral char_count
returns-clause-lines c = record {
  session = refl;
  later_session = refl;
  mismatch = refl;
  seat_missing = refl;
  no_room_to_compare = refl;
  write = refl;
  media = refl;
  no_memory = refl;
}
