use Rattle.std.proofs.Common.{refl}
use Rattle.kept_unit.proofs.laws.range_rows.Goals as goal

pub returns : goal.returns
returns c = record {
  three = refl;
  one = refl;
  in_order = refl;
  follow = refl;
  gap = refl;
  twice = refl;
  too_few = refl;
  rising = refl;
  falling = refl;
  nothing = refl;
}
