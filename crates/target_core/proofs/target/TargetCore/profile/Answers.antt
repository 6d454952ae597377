use Rattle.std.proofs.Common.{◌≡◌, ◌∙◌, List, None, Some, ap, subst, sym}
use Rattle.std.specs.Prelude.{slice_get}
use Rattle.scsi_cdb.specs.declared.profile.CommandSet.{CommandSet}
use Rattle.logical_unit.specs.UnitView.{UnitWithRoom, units_of}
use Rattle.target_core.specs.Faults.{fault_of}
use Rattle.target_core.proofs.Ordered.{first_profile, one_profile}
use Rattle.target_core.proofs.target.TargetCore.profile.Goals as goal

pub returns-in-Some-clause-each : goal.returns-in-Some-clause-each
returns-in-Some-clause-each g c = λ k u there.
    let order : fault_of (units_of c.args.self.now) ≡ None = subst (λ (us : List UnitWithRoom). fault_of (units_of us) ≡ None) c.self.view_is c.self.invariant in
    let first : Some c.in-Some.changer.now ≡ slice_get c.args.self.now 0 = c.in-Some.ensures.value ∙ ap (λ (us : List UnitWithRoom). slice_get us 0) (c.deref.ensures.value ∙ c.self.view_is) in
    one_profile (units_of c.args.self.now) k u order there
    ∙ first_profile c.args.self.now c.in-Some.changer.now first
    ∙ ap (λ (s : CommandSet). s.profile) (sym c.commands.ensures)
