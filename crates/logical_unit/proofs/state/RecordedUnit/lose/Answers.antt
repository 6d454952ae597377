use Rattle.std.proofs.Common.{◌≡◌, true, sym, subst}
use Rattle.unit_attention.specs.Queues.{has_slot}
use Rattle.logical_unit.specs.UnitView.{RecordedUnitView}
use Rattle.logical_unit.proofs.Legal.{lost_stands}
use Rattle.logical_unit.proofs.state.RecordedUnit.lose.Goals as goal

pub invariant_of-self : goal.invariant_of-self
invariant_of-self c =
    rw (c.lose.ensures, c.note_event.ensures.records)
    (lost_stands c.self.inside.base c.self.inside.state c.self.inside.trail.records c.args.nexus _ (subst (λ (v : RecordedUnitView). has_slot v.state.slots c.args.nexus ≡ true) (sym c.self.view_is) c.requires.slot) c.self.invariant)
