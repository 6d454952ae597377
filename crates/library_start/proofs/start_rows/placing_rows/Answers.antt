use Rattle.std.proofs.Common.{refl, lit<}
use Rattle.library_start.specs.StartRows.{with_one, with_both, with_one_for_hosts, with_both_for_hosts}
use Rattle.library_start.proofs.start_rows.placing_rows.Goals as goal

pub returns-clause-library : goal.returns-clause-library
returns-clause-library c = record {
  shelves = with_both c.args.a c.args.b;
  shelved = (with_one c.args.a, (refl, refl), (with_both c.args.a c.args.b, (lit< tt, refl, refl, refl), refl));
  units_are = refl;
}

pub returns-clause-for_hosts : goal.returns-clause-for_hosts
returns-clause-for_hosts c = record {
  shelves = with_both_for_hosts c.args.a c.args.b;
  shelved = (with_one_for_hosts c.args.a, (refl, refl), (with_both_for_hosts c.args.a c.args.b, (lit< tt, refl, refl, refl), refl));
  units_are = refl;
}
