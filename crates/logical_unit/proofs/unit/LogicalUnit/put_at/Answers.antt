use Rattle.logical_unit.proofs.Profiles.{put_profile}
use Rattle.logical_unit.proofs.unit.LogicalUnit.put_at.Goals as goal

pub invariant_of-self : goal.invariant_of-self
invariant_of-self g c = cc (put_profile _ _ c.args.place c.args.volume c.in-Ok.ensures.ok)
