use Rattle.std.proofs.Common.{rules, ◌≡◌, ap}
use Rattle.device_server.specs.View.{profile_of}
use Rattle.judgement.specs.UnitStateView.{UnitStateView}
use Rattle.logical_unit.proofs.Profiles.{taken_profile}
use Rattle.logical_unit.proofs.unit.LogicalUnit.medium_out.Goals as goal

pub returns-then-not-has_volume-clause-err : goal.returns-then-not-has_volume-clause-err
returns-then-not-has_volume-clause-err g c = search rules fits 100

pub returns-then-not-reserve-clause-err : goal.returns-then-not-reserve-clause-err
returns-then-not-reserve-clause-err g c = search rules fits 100

pub give_out_medium-requires-clause-allowed : goal.give_out_medium-requires-clause-allowed
give_out_medium-requires-clause-allowed g c = search rules fits 100

pub returns-clause-ok : goal.returns-clause-ok
returns-clause-ok g c = search rules fits 100

pub invariant_of-self-2 : goal.invariant_of-self-2
invariant_of-self-2 g c =
    let of : c.reserve.new.self.state.profile ≡ profile_of (g.D.DeviceServer.shown c.self.inside.device.value) = search rules in
    let kept = ap (λ (k : UnitStateView). k.profile) c.give_out_medium.ensures.state in
    let device = taken_profile _ _ 0 c.take_from_bay-volume.result c.take_from_bay-volume.ensures in
    cc
