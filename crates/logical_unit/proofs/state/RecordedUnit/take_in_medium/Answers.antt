use Rattle.logical_unit.proofs.Legal.{medium_in_stands}
use Rattle.logical_unit.proofs.state.RecordedUnit.take_in_medium.Goals as goal

pub invariant_of-self : goal.invariant_of-self
invariant_of-self c =
    rw (c.take_in_medium.ensures, c.note_event.ensures.records)
    (medium_in_stands c.self.inside.base c.self.inside.state c.self.inside.trail.records _ c.self.invariant)
