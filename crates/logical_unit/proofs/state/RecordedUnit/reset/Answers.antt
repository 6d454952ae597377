use Rattle.logical_unit.proofs.Legal.{reset_stands}
use Rattle.logical_unit.proofs.state.RecordedUnit.reset.Goals as goal

pub invariant_of-self : goal.invariant_of-self
invariant_of-self c =
    rw (c.reset.ensures, c.note_event.ensures.records)
    (reset_stands c.self.inside.base c.self.inside.state c.self.inside.trail.records _ c.self.invariant)
