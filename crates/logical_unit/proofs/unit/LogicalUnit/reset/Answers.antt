use Rattle.std.proofs.Common.{rules, ◌≡◌, ap, ◌∙◌}
use Rattle.device_server.specs.View.{profile_of}
use Rattle.device_server.proofs.SameDevice.{reset_profile}
use Rattle.judgement.specs.UnitStateView.{UnitStateView}
use Rattle.logical_unit.proofs.unit.LogicalUnit.reset.Goals as goal

pub invariant_of-self-2 : goal.invariant_of-self-2
invariant_of-self-2 g c =
    let of : c.reserve.new.self.state.profile ≡ profile_of (g.D.DeviceServer.shown c.self.inside.device.value) = search rules in
    let kept = ap (λ (k : UnitStateView). k.profile) c.reset-2.ensures.state in
    let device = ap profile_of c.reset.ensures ∙ reset_profile _ in
    cc
