use Rattle.std.proofs.Common.{◌≡◌}
use Rattle.device_server.specs.View.{profile_of, journeyed, exchange_journeyed}
use Rattle.logical_unit.specs.declared.route.Errand.TheVariants.{Move, Exchange}
use Rattle.logical_unit.proofs.Profiles.{errand_profile}
use Rattle.logical_unit.proofs.unit.LogicalUnit.note_errand.Goals as goal

pub invariant_of-self : goal.invariant_of-self
invariant_of-self g c =
    let same : profile_of (journeyed (g.D.DeviceServer.shown c.self.inside.device.value) c.in-Move.route.source c.in-Move.route.destination) ≡ profile_of (g.D.DeviceServer.shown c.self.inside.device.value) =
    errand_profile (Move c.in-Move.route) (g.D.DeviceServer.shown c.self.inside.device.value) in
    cc same

pub invariant_of-self-in-Exchange : goal.invariant_of-self-in-Exchange
invariant_of-self-in-Exchange g c =
    let same : profile_of (exchange_journeyed (g.D.DeviceServer.shown c.self.inside.device.value) c.in-Exchange.route.source c.in-Exchange.route.first c.in-Exchange.route.second) ≡ profile_of (g.D.DeviceServer.shown c.self.inside.device.value) =
    errand_profile (Exchange c.in-Exchange.route) (g.D.DeviceServer.shown c.self.inside.device.value) in
    cc same
