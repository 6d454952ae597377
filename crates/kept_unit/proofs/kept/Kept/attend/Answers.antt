use Rattle.std.proofs.Common.{ap, ◌∙◌, subst, sym}
use Rattle.logical_unit.specs.UnitView.{UnitView}
use Rattle.kept_unit.specs.Keeping.{IsKept}
use Rattle.kept_unit.proofs.Counting.{settled_kept}
use Rattle.kept_unit.proofs.kept.Kept.attend.Goals as goal

pub invariant_of-self : goal.invariant_of-self
invariant_of-self g c =
    subst (λ (u : UnitView). IsKept g.L.UnitLedger.profile g.row.LUN u c.self.inside.book.total c.self.inside.first g.L.UnitLedger.since) (ap (λ x. x.unit) (sym c.attend.ensures.rest))
    (settled_kept _ _ c.self.inside.unit.unit c.attend.new.self.unit.device _ _ _ c.attend.ensures.same c.self.invariant)
