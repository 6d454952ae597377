use Rattle.std.proofs.Common.{rules, ◌≡◌, true, sym, subst}
use Rattle.device_server.specs.View.{profile_of}
use Rattle.judgement.specs.UnitState.{has_room}
use Rattle.logical_unit.specs.UnitView.{RecordedUnitView}
use Rattle.logical_unit.proofs.DeviceCommands.{IsPlainIf, decoded_plain}
use Rattle.logical_unit.proofs.Legal.{answered_stands}
use Rattle.logical_unit.proofs.Executed.{answered_alike}
use Rattle.logical_unit.proofs.state.RecordedUnit.answer.Goals as goal

pub invariant_of-self-2 : goal.invariant_of-self-2
invariant_of-self-2 g c =
    let plain = subst IsPlainIf (sym c.in_ok-decoded.ensures.ok) (decoded_plain c.args.received.now.commands c.args.received.now.cdb
    c.args.received.now.bytes) in
    let slot = subst (λ (v : RecordedUnitView). has_room v.state c.args.received.now.nexus ≡ true) (sym c.self.view_is) c.requires.slot in
    let room : has_room c.self.inside.state c.nexus-nexus.result ≡ true = subst (λ n. has_room c.self.inside.state n ≡ true)
    (sym c.nexus-nexus.ensures) slot in
    let of = subst (λ (v : RecordedUnitView). v.state.profile ≡ profile_of (g.D.DeviceServer.shown c.args.device.now.value))
    (sym c.self.view_is) c.requires.profile in
    rw c.note-number.ensures.records
    (answered_stands c.self.inside.base c.self.inside.state c.judge.new.state c.self.inside.trail.records _ _ c.nexus-nexus.result
    c.in_ok-decoded.decoded c.bytes.result.now _ c.act_of-act.result c.in_ok-decision.decision c.in_ok-decision.reply c.self.invariant room of
    plain c.act_of-act.ensures c.in_ok-decision.ensures.ok)

pub returns-clause-ok : goal.returns-clause-ok
returns-clause-ok g c =
    answered_alike (g.D.DeviceServer.shown c.args.device.now.value)
    (record {
      state = c.self.inside.state;
      base = record { state = c.self.inside.base; last = c.self.inside.trail.base };
      records =
          c.self.inside.trail.records;
      room = c.self.inside.trail.room;
    }) _
    c.nexus-nexus.result c.args.received.now.nexus c.args.received.now.cdb c.bytes.result.now c.args.received.now.bytes
    c.args.received.now.commands c.in_ok-decoded.decoded c.act_of-act.result (
      record { device = g.D.DeviceServer.shown c.judge.new.device.value; state = c.judge.new.state },
      c.in_ok-decision.decision,
      c.in_ok-decision.reply,
    ) _
    c.self.view_is c.nexus-nexus.ensures c.bytes.ensures c.requires.kind c.in_ok-decoded.ensures.ok c.act_of-act.ensures
    c.in_ok-decision.ensures.ok
    (search rules fits 100)
