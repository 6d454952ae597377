use Rattle.std.proofs.Common.{◌≡◌, false, sym, subst}
use Rattle.logical_unit.specs.UnitView.{RecordedUnitView}
use Rattle.judgement.specs.UnitState.{is_prevented}
use Rattle.logical_unit.proofs.Legal.{medium_out_stands}
use Rattle.logical_unit.proofs.state.RecordedUnit.give_out_medium.Goals as goal

pub invariant_of-self : goal.invariant_of-self
invariant_of-self c =
    rw (c.note_event.ensures.records)
    (medium_out_stands c.self.inside.base c.self.inside.state c.self.inside.trail.records _ (subst (λ (v : RecordedUnitView). is_prevented v.state ≡ false) (sym c.self.view_is) c.requires.allowed) c.self.invariant)
