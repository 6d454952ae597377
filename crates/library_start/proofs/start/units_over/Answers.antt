use Rattle.std.proofs.Common.{◌≡◌, ◌+◌, ◌∷◌, [], length, length-append, ap, sym, ◌∙◌, arith, rules}
use Rattle.std.proofs.lemmas.Iterator.Consumers.{YieldsList-turn}
use Rattle.std.proofs.lemmas.Iterator.Adapters.{YieldsList-from_vec}
use Rattle.logical_unit.specs.UnitView.{units_of}
use Rattle.library_start.specs.Starting.{ShelvesView}
use Rattle.library_start.proofs.StartLemmas.{units_over-more}
use Rattle.library_start.proofs.start.units_over.Goals as goal

pub drives-preserved : goal.drives-preserved
drives-preserved c =
    let turn = YieldsList-turn (YieldsList-from_vec {s = c.into_iter-drive-iterator.result} c.shelves.inside.drives.items (search rules) (search rules))
    c.drives.yielded c.drives.drive-iterator c.drives.yielded_by c.next.result c.next.new.self c.in-Some.drive c.in-Some.is c.next.ensures.steps in
    let count = ap (λ (s : ShelvesView). length s.drives) c.shelves.view_is in
    let number : c.saturating_add-lun.result ≡ length c.drives.yielded + 1 =
    omega (arith, turn.0, count, c.requires, c.drives.invariant.1, c.saturating_add-lun.ensures) in (
      ap units_of c.in_ok-push-2.ensures.items
          ∙ units_over-more c.args.hosts c.drives.units.items c.in_ok-unit_at-2.field-0 c.args.count c.saturating_add-lun.result c.args.shelves.elements
          c.drives.yielded c.in-Some.drive c.drives.invariant.0 c.in_ok-unit_at-2.ensures number,
      number ∙ sym (length-append c.drives.yielded (c.in-Some.drive ∷ [])),
    )
