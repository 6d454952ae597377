use Rattle.std.proofs.Common.{refl, lit<}
use Rattle.permission_chart.proofs.laws.worked_rows.Goals as goal

pub returns-clause-names : goal.returns-clause-names
returns-clause-names c = record {
  whole = refl;
  small_letters = refl;
  part = λ same. absurd cc;
  found = ((4, lit< tt, refl), refl);
  found_for_hosts = ((33, lit< tt, refl), refl);
}
