use Rattle.std.proofs.Common.{rules, ◌≡◌, refl, ap, ◌∙◌}
use Rattle.device_server.specs.View.{profile_of}
use Rattle.logical_unit.specs.UnitView.{RecordedUnitView, UnitWithRoom, unit_of}
use Rattle.logical_unit.proofs.Contents.{changes_nothing}
use Rattle.logical_unit.proofs.Profiles.{answered_profile}
use Rattle.logical_unit.proofs.Executed.{executed, not_busy}
use Rattle.logical_unit.proofs.unit.LogicalUnit.answer.Goals as goal

pub returns-clause-unit : goal.returns-clause-unit
returns-clause-unit g c =
    let found = c.has_room.ensures.same in
    executed _ _ _ c.deref_mut-state.result.now c.reserve.new.self c.args.received.now.nexus c.args.received.now.cdb c.args.received.now.bytes c.in-Ok.reply
    (ap (unit_of _) c.deref_mut-state.ensures.value ∙ ap (λ (x : UnitWithRoom). x.unit) c.self.view_is) (c.reserve.ensures.rest ∙ ap (λ (x : RecordedUnitView). record x { room = c.reserve.new.self.room }) found) (search rules) (c.if-not-reserve.ensures.number refl) c.in-Ok.ensures.ok

pub returns-clause-busy : goal.returns-clause-busy
returns-clause-busy g c = not_busy c.args.self.now _ _ c.reserve.new.self c.args.received.now.nexus c.args.received.now.cdb c.args.received.now.bytes c.in-Ok.reply c.in-Ok.ensures.ok

pub returns-clause-outsider : goal.returns-clause-outsider
returns-clause-outsider g c closed = changes_nothing _ _ c.args.received.now.nexus c.args.received.now.cdb c.args.received.now.bytes c.in-Ok.reply closed (returns-clause-unit g c)

pub returns-clause-act : goal.returns-clause-act
returns-clause-act g c = search rules fits 100

pub invariant_of-self-2 : goal.invariant_of-self-2
invariant_of-self-2 g c =
    let of : c.reserve.new.self.state.profile ≡ profile_of (g.D.DeviceServer.shown c.self.inside.device.value) = search rules in
    answered_profile (g.D.DeviceServer.shown c.self.inside.device.value) (g.D.DeviceServer.shown c.answer.new.device.value) c.reserve.new.self
    c.answer.new.self c.args.received.now.nexus c.args.received.now.cdb c.args.received.now.bytes c.in-Ok.reply c.in-Ok.ensures.ok of
