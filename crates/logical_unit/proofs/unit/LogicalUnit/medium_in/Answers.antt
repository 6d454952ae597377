use Rattle.std.proofs.Common.{rules, ◌≡◌, ap}
use Rattle.device_server.specs.View.{profile_of}
use Rattle.judgement.specs.UnitStateView.{UnitStateView}
use Rattle.logical_unit.proofs.Profiles.{put_profile}
use Rattle.logical_unit.proofs.unit.LogicalUnit.medium_in.Goals as goal

pub returns-then-has_volume-clause-err : goal.returns-then-has_volume-clause-err
returns-then-has_volume-clause-err g c = search rules fits 100

pub invariant_of-self-2 : goal.invariant_of-self-2
invariant_of-self-2 g c =
    let of : c.reserve.new.self.state.profile ≡ profile_of (g.D.DeviceServer.shown c.self.inside.device.value) = search rules in
    let kept = ap (λ (k : UnitStateView). k.profile) c.take_in_medium.ensures.state in
    let device = put_profile _ _ 0 c.args.volume c.put_into_bay.ensures in
    cc
