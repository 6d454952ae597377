use Rattle.std.proofs.lemmas.Grind.{common_steps}
use Rattle.std.proofs.Common.{◌≡◌, List, ◌∙◌, ap, sym, subst, length, drop, ◌≤◌, arith}
use Rattle.std.proofs.lemmas.List.{length-map}
use Rattle.std.specs.Prelude.{nat_lt, slice_get}
use Rattle.logical_unit.specs.UnitView.{UnitWithRoom, units_of}
use Rattle.lun_router.proofs.Places.{placed, enough, few, units_in, placed_some, is_there, one_by_one}
use Rattle.lun_router.proofs.units_by_lun.split_units.Goals as goal

pub returns-clause-units : goal.returns-clause-units
returns-clause-units g c =
    let core = ap units_of c.into_units-units.ensures.units in
    let all = one_by_one (units_of c.args.core) (units_of c.take_first.new.units.items) (units_of c.take_first-2.new.units.items) (units_of c.take_first-second.new.units.items) (units_of c.take_first-third.new.units.items)
    (c.take_first.ensures.rest ∙ ap (drop 1) core) c.take_first-2.ensures.rest c.take_first-second.ensures.rest c.take_first-third.ensures.rest in
    let whole = c.into_units-units.ensures.ordered in
    let count : c.len-count.result ≡ length (units_of c.args.core) =
    c.len-count.ensures ∙ c.into_units-units.result.ok.0 ∙ sym (length-map c.into_units-units.result.items (λ (u : UnitWithRoom). u.unit)) ∙ ap (λ (xs : List UnitWithRoom). length (units_of xs)) c.into_units-units.ensures.units in
    record {
      some = subst (λ n. 2 ≤ n) (sym count) (enough (units_of c.args.core) whole);
      few = subst (λ n. n ≤ 5) (sym count) (few (units_of c.args.core) whole);
      second = is_there (units_of c.args.core) 2 c.take_first-second.result (c.take_first-second.ensures.unit ∙ all.second) ∙ ap (λ n. nat_lt 2 n) (sym count);
      third = is_there (units_of c.args.core) 3 c.take_first-third.result (c.take_first-third.ensures.unit ∙ all.third) ∙ ap (λ n. nat_lt 3 n) (sym count);
      fourth = is_there (units_of c.args.core) 4 c.take_first-fourth.result (c.take_first-fourth.ensures.unit ∙ all.fourth) ∙ ap (λ n. nat_lt 4 n) (sym count);
    }

pub returns-clause-changer : goal.returns-clause-changer
returns-clause-changer g c =
    placed (units_of c.args.core) 0 c.in-Some.changer.unit c.into_units-units.ensures.ordered
    (sym (ap (λ (xs : List UnitWithRoom). slice_get (units_of xs) 0) c.into_units-units.ensures.units) ∙ sym c.take_first.ensures.unit ∙ ap units_in c.in-Some.is)

pub returns-clause-first : goal.returns-clause-first
returns-clause-first g c =
    let core = ap units_of c.into_units-units.ensures.units in
    let all = one_by_one (units_of c.args.core) (units_of c.take_first.new.units.items) (units_of c.take_first-2.new.units.items) (units_of c.take_first-second.new.units.items) (units_of c.take_first-third.new.units.items)
    (c.take_first.ensures.rest ∙ ap (drop 1) core) c.take_first-2.ensures.rest c.take_first-second.ensures.rest c.take_first-third.ensures.rest in
    placed (units_of c.args.core) 1 c.in-Some-take_first.first.unit c.into_units-units.ensures.ordered
    (sym all.first ∙ sym c.take_first-2.ensures.unit ∙ ap units_in c.in-Some-take_first.is)

pub returns-clause-second : goal.returns-clause-second
returns-clause-second g c =
    let core = ap units_of c.into_units-units.ensures.units in
    let all = one_by_one (units_of c.args.core) (units_of c.take_first.new.units.items) (units_of c.take_first-2.new.units.items) (units_of c.take_first-second.new.units.items) (units_of c.take_first-third.new.units.items)
    (c.take_first.ensures.rest ∙ ap (drop 1) core) c.take_first-2.ensures.rest c.take_first-second.ensures.rest c.take_first-third.ensures.rest in
    placed_some (units_of c.args.core) 2 c.take_first-second.result c.into_units-units.ensures.ordered (c.take_first-second.ensures.unit ∙ all.second)

pub returns-clause-third : goal.returns-clause-third
returns-clause-third g c =
    let core = ap units_of c.into_units-units.ensures.units in
    let all = one_by_one (units_of c.args.core) (units_of c.take_first.new.units.items) (units_of c.take_first-2.new.units.items) (units_of c.take_first-second.new.units.items) (units_of c.take_first-third.new.units.items)
    (c.take_first.ensures.rest ∙ ap (drop 1) core) c.take_first-2.ensures.rest c.take_first-second.ensures.rest c.take_first-third.ensures.rest in
    placed_some (units_of c.args.core) 3 c.take_first-third.result c.into_units-units.ensures.ordered (c.take_first-third.ensures.unit ∙ all.third)

pub returns-clause-fourth : goal.returns-clause-fourth
returns-clause-fourth g c =
    let core = ap units_of c.into_units-units.ensures.units in
    let all = one_by_one (units_of c.args.core) (units_of c.take_first.new.units.items) (units_of c.take_first-2.new.units.items) (units_of c.take_first-second.new.units.items) (units_of c.take_first-third.new.units.items)
    (c.take_first.ensures.rest ∙ ap (drop 1) core) c.take_first-2.ensures.rest c.take_first-second.ensures.rest c.take_first-third.ensures.rest in
    placed_some (units_of c.args.core) 4 c.take_first-fourth.result c.into_units-units.ensures.ordered (c.take_first-fourth.ensures.unit ∙ all.fourth)

pub returns-clause-count : goal.returns-clause-count
returns-clause-count g c = grind (arith, common_steps)

pub overflow_cast-count : goal.overflow_cast-count
overflow_cast-count g c = grind (arith, common_steps)
