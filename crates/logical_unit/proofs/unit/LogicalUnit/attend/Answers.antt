use Rattle.logical_unit.proofs.Profiles.{settled_profile}
use Rattle.logical_unit.proofs.unit.LogicalUnit.attend.Goals as goal

pub invariant_of-self : goal.invariant_of-self
invariant_of-self g c = cc (settled_profile _ _ c.attend.ensures.same)
