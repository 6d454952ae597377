use Rattle.std.proofs.Common.{sym, ap, ◌∙◌}
use Rattle.device_server.specs.View.{profile_of}
use Rattle.logical_unit.specs.UnitView.{RecordedUnitView, UnitWithRoom}
use Rattle.logical_unit.proofs.Profiles.{trail_profile}
use Rattle.logical_unit.proofs.unit.LogicalUnit.records.Goals as goal

pub returns-clause-base : goal.returns-clause-base
returns-clause-base g c =
    ap (λ (x : UnitWithRoom). x.unit.base.state.profile) (sym c.self.view_is)
    ∙ sym (ap (λ (v : RecordedUnitView). v.base.state.profile) c.deref.ensures)
    ∙ sym (trail_profile _ _ _ c.records.ensures.trail)
    ∙ ap (λ (v : RecordedUnitView). v.state.profile) c.deref.ensures
    ∙ c.self.invariant
    ∙ ap (λ (x : UnitWithRoom). profile_of x.unit.device) c.self.view_is
