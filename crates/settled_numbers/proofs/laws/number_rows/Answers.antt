use Rattle.std.proofs.Common.{refl}
use Rattle.settled_numbers.proofs.laws.number_rows.Goals as goal

pub returns : goal.returns
returns c = record {
  first = refl;
  last = refl;
  below = refl;
  between = refl;
  one = refl;
  all = refl;
  apart = refl;
  touching = refl;
  falling = refl;
  closed = refl;
}
