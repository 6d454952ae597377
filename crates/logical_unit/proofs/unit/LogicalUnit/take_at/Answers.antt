use Rattle.logical_unit.proofs.Profiles.{taken_profile}
use Rattle.logical_unit.proofs.unit.LogicalUnit.take_at.Goals as goal

pub invariant_of-self : goal.invariant_of-self
invariant_of-self g c = cc (taken_profile _ _ c.args.place c.in-Ok.volume c.in-Ok.ensures.ok)
