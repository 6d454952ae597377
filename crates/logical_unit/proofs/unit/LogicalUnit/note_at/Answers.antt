use Rattle.logical_unit.proofs.Profiles.{noted_profile}
use Rattle.logical_unit.proofs.unit.LogicalUnit.note_at.Goals as goal

pub invariant_of-self : goal.invariant_of-self
invariant_of-self g c =
    cc (noted_profile _ _ c.args.place c.args.tag c.mark.result c.mark.ensures.ok c.mark.ensures.same)
