use Rattle.std.proofs.Common.{rules, ◌≡◌}
use Rattle.device_server.specs.View.{profile_of}
use Rattle.logical_unit.proofs.Profiles.{begun_profile}
use Rattle.logical_unit.proofs.unit.LogicalUnit.begin.Goals as goal

pub invariant_of-self-2 : goal.invariant_of-self-2
invariant_of-self-2 g c =
    let of : c.deref_mut-3.result.now.state.profile ≡ profile_of (g.D.DeviceServer.shown c.self.inside.device.value) = search rules in
    begun_profile (g.D.DeviceServer.shown c.self.inside.device.value) (g.D.DeviceServer.shown c.begin.new.device.value) c.deref_mut-3.result.now
    c.begin.new.self c.args.received.now.nexus c.args.received.now.cdb c.args.received.now.bytes c.args.errand c.in-Ok.begun
    c.in-Ok.ensures.begins c.in-Ok.ensures.stays c.in-Ok.ensures.device of
