use Rattle.std.proofs.Common.{rules, ◌≡◌, Result, Ok, Err, true, false, refl, sym, ap, subst, ◌∙◌}
use Rattle.scsi_sense.specs.declared.condition.Condition.TheVariants.{InternalTargetFailure}
use Rattle.scsi_cdb.specs.declared.profile.CommandSet.{CommandSet}
use Rattle.device_server.specs.View.{profile_of, commands_of, drives_of}
use Rattle.scsi_cdb.specs.declared.fault.CdbFault.{CdbFault}
use Rattle.scsi_cdb.specs.declared.request.Request.{Request}
use Rattle.judgement.specs.Conditions.{condition_of_fault}
use Rattle.judgement.specs.declared.command.Command.TheVariants.{Device}
use Rattle.logical_unit.proofs.NamedDrives.{asks, moving}
use Rattle.judgement.specs.Judge.{judged_as}
use Rattle.judgement.specs.JudgedUnit.{JudgedUnit}
use Rattle.judgement.specs.Commands.{command_of, decoded_command, act_of, act_of_decoded}
use Rattle.judgement.specs.UnitState.{has_room, after_contact}
use Rattle.judgement.specs.UnitStateView.{UnitStateView}
use Rattle.judgement.specs.Replies.{check}
use Rattle.logical_unit.specs.MoveJudgement.{IsLeft}
use Rattle.logical_unit.specs.MoveFinding.{FindsMove, spells_move}
use Rattle.logical_unit.specs.declared.move_finding.MoveFinding.{MoveFinding}
use Rattle.logical_unit.specs.UnitView.{RecordedUnitView, unit_of}
use Rattle.logical_unit.proofs.LeftToDrives.{Opens, opens}
use Rattle.logical_unit.proofs.DeviceCommands.{IsPlainIf, decoded_plain}
use Rattle.logical_unit.proofs.Legal.{answered_stands}
use Rattle.logical_unit.specs.Move.{is_left, judged_at}
use Rattle.judgement.specs.declared.command.Command.{Command}
use Rattle.judgement.specs.declared.decision.Decision.{Decision}
use Rattle.judgement.specs.declared.reply.Reply.{Reply}
use Rattle.scsi_sense.specs.declared.condition.Condition.{Condition}
use Rattle.logical_unit.proofs.Executed.{answered_alike, judged_alike}
use Rattle.logical_unit.proofs.state.RecordedUnit.begin.Given as given
use Rattle.logical_unit.proofs.state.RecordedUnit.begin.Goals as goal

-- what judgement found, by the sender and the data as the command has them
judged_so : (g : given.Over) (c : goal.In-Left g)
    → judged_as (record {
      device = g.D.DeviceServer.shown c.args.device.now.value;
      state = after_contact c.self.inside.state
          c.args.received.now.nexus;
    }) c.args.received.now.nexus c.in_ok-decoded.decoded c.args.received.now.bytes
    ≡ (
      record { device = g.D.DeviceServer.shown c.judge_move.new.device.value; state = c.judge_move.new.state },
      c.in-Left.decision,
      check
          InternalTargetFailure,
    )
judged_so g c =
    judged_alike (g.D.DeviceServer.shown c.args.device.now.value) c.self.inside.state c.in_ok-decoded.decoded
    c.nexus-nexus.result c.args.received.now.nexus c.bytes.result.now c.args.received.now.bytes (
      record { device = g.D.DeviceServer.shown c.judge_move.new.device.value; state = c.judge_move.new.state },
      c.in-Left.decision,
      check
          InternalTargetFailure,
    )
    c.nexus-nexus.ensures c.bytes.ensures
    (subst (λ (f : MoveFinding). FindsMove (g.D.DeviceServer.shown c.args.device.now.value)
    (g.D.DeviceServer.shown c.judge_move.new.device.value) c.self.inside.state c.judge_move.new.state c.nexus-nexus.result
    c.in_ok-decoded.decoded c.bytes.result.now f) c.in-Left.is c.in_ok-found.ensures.ok)

-- what judgement left, with nothing changed
opened : (g : given.Over) (c : goal.In-Left g)
    → Opens (g.D.DeviceServer.shown c.args.device.now.value) c.self.inside.state c.args.received.now.nexus c.args.received.now.cdb
    c.args.received.now.bytes c.args.errand c.act_of-act.result
    (record { device = g.D.DeviceServer.shown c.judge_move.new.device.value; state = c.judge_move.new.state }) c.in-Left.decision
    (judged_as (record {
      device = g.D.DeviceServer.shown c.args.device.now.value;
      state = after_contact c.self.inside.state
          c.args.received.now.nexus;
    }) c.args.received.now.nexus (decoded_command (commands_of (g.D.DeviceServer.shown c.args.device.now.value))
    c.args.received.now.cdb c.args.received.now.bytes) c.args.received.now.bytes)
opened g c =
    let commands_are : c.args.received.now.commands ≡ commands_of (g.D.DeviceServer.shown c.args.device.now.value) = c.requires.kind in
    opens (g.D.DeviceServer.shown c.args.device.now.value) c.self.inside.state c.args.received.now.nexus c.args.received.now.cdb
    c.args.received.now.bytes c.args.errand c.in_ok-decoded.decoded c.act_of-act.result _ c.in-Left.decision (check InternalTargetFailure)
    c.requires.changer c.requires.errand (subst (λ (v : RecordedUnitView). has_room v.state c.args.received.now.nexus ≡ true)
    (sym c.self.view_is) c.requires.slot)
    (c.in_ok-decoded.ensures.ok ∙ ap (λ (k : CommandSet). decoded_command k c.args.received.now.cdb c.args.received.now.bytes) commands_are)
    c.act_of-act.ensures (judged_so g c) refl

asked_by : (g : given.Over) (c : goal.In-Left g) → c.act_of-act.result ≡ act_of
    (commands_of (g.D.DeviceServer.shown c.args.device.now.value)) c.args.received.now.cdb c.args.received.now.bytes
asked_by g c =
    let commands_are : c.args.received.now.commands ≡ commands_of (g.D.DeviceServer.shown c.args.device.now.value) = c.requires.kind in
    c.act_of-act.ensures ∙ ap act_of_decoded (c.in_ok-decoded.ensures.ok ∙ ap (λ (k : CommandSet). decoded_command k c.args.received.now.cdb
    c.args.received.now.bytes) commands_are)

pub invariant_of-self-in-Left : goal.invariant_of-self-in-Left
invariant_of-self-in-Left g c = (c.self.invariant.0, ap (λ (p : JudgedUnit). p.state) (opened g c).same ∙ c.self.invariant.1)

pub returns-in-Left-clause-begins : goal.returns-in-Left-clause-begins
returns-in-Left-clause-begins g c =
    let o = opened g c in
    subst (λ (v : RecordedUnitView). IsLeft (unit_of (g.D.DeviceServer.shown c.args.device.now.value) v) c.args.received.now.nexus
    c.args.received.now.cdb c.args.received.now.bytes c.args.errand c.act_of-act.result c.in-Left.decision) c.self.view_is
    (record { left = o.left; present = o.present; found = o.decision; asked = asked_by g c; awaits = o.awaits; ways = o.ways })

pub returns-in-Left-clause-stays : goal.returns-in-Left-clause-stays
returns-in-Left-clause-stays g c =
    ap (λ (k : UnitStateView). record {
      state = k;
      base = record { state = c.self.inside.base; last = c.self.inside.trail.base };
      records =
          c.self.inside.trail.records;
      room = c.self.inside.trail.room;
    }) (ap (λ (p : JudgedUnit). p.state) (opened g c).same) ∙ c.self.view_is

pub returns-in-Left-clause-device : goal.returns-in-Left-clause-device
returns-in-Left-clause-device g c = λ left. ap (λ (p : JudgedUnit). p.device) (opened g c).same

pub invariant_of-self-2 : goal.invariant_of-self-2
invariant_of-self-2 g c =
    let plain = subst IsPlainIf (sym c.in_ok-decoded.ensures.ok) (decoded_plain c.args.received.now.commands c.args.received.now.cdb
    c.args.received.now.bytes) in
    let slot = subst (λ (v : RecordedUnitView). has_room v.state c.args.received.now.nexus ≡ true) (sym c.self.view_is) c.requires.slot in
    let room : has_room c.self.inside.state c.nexus-nexus.result ≡ true = subst (λ n. has_room c.self.inside.state n ≡ true)
    (sym c.nexus-nexus.ensures) slot in
    let of = subst (λ (v : RecordedUnitView). v.state.profile ≡ profile_of (g.D.DeviceServer.shown c.args.device.now.value))
    (sym c.self.view_is) c.requires.profile in
    let found = subst (λ (f : MoveFinding). FindsMove (g.D.DeviceServer.shown c.args.device.now.value)
    (g.D.DeviceServer.shown c.judge_move.new.device.value) c.self.inside.state c.judge_move.new.state c.nexus-nexus.result
    c.in_ok-decoded.decoded c.bytes.result.now f) c.in-Ended.is c.in_ok-found.ensures.ok in
    rw c.note-number.ensures.records
    (answered_stands c.self.inside.base c.self.inside.state c.judge_move.new.state c.self.inside.trail.records _ _ c.nexus-nexus.result
    c.in_ok-decoded.decoded c.bytes.result.now _ c.act_of-act.result c.in-Ended.decision c.in-Ended.reply c.self.invariant room of plain
    c.act_of-act.ensures found.1)

pub returns-clause-begins : goal.returns-clause-begins
returns-clause-begins g c =
    let d = g.D.DeviceServer.shown c.args.device.now.value in
    let n = c.args.received.now.nexus in
    let cdb = c.args.received.now.cdb in
    let bytes = c.args.received.now.bytes in
    let out : JudgedUnit × Decision × Reply = (record { device = g.D.DeviceServer.shown c.judge_move.new.device.value; state = c.judge_move.new.state }, c.in-Ended.decision, c.in-Ended.reply) in
    let found = subst (λ (f : MoveFinding). FindsMove d (g.D.DeviceServer.shown c.judge_move.new.device.value) c.self.inside.state c.judge_move.new.state
    c.nexus-nexus.result c.in_ok-decoded.decoded c.bytes.result.now f) c.in-Ended.is c.in_ok-found.ensures.ok in
    let decoded_so : c.in_ok-decoded.decoded ≡ decoded_command (commands_of d) cdb bytes
    = c.in_ok-decoded.ensures.ok ∙ ap (λ (k : CommandSet). decoded_command k cdb bytes) c.requires.kind in
    let judged_so = judged_alike d c.self.inside.state c.in_ok-decoded.decoded c.nexus-nexus.result n c.bytes.result.now bytes out c.nexus-nexus.ensures
    c.bytes.ensures found.1 in
    let inside : RecordedUnitView = record {
      state = c.self.inside.state;
      base = record { state = c.self.inside.base; last = c.self.inside.trail.base };
      records = c.self.inside.trail.records;
      room = c.self.inside.trail.room;
    } in
    record {
      ended = subst (λ (w : RecordedUnitView). is_left (judged_at (unit_of d w) n cdb bytes).2.sense ≡ false) c.self.view_is
          (ap (λ (x : JudgedUnit × Decision × Reply). is_left x.2.sense)
          (ap (λ (t : Result Command Condition). judged_as (record { device = d; state = after_contact c.self.inside.state n }) n t bytes) (sym decoded_so)
          ∙ judged_so) ∙ found.0);
      answer = answered_alike d inside _ c.nexus-nexus.result n cdb c.bytes.result.now bytes c.args.received.now.commands c.in_ok-decoded.decoded
          c.act_of-act.result out _ c.self.view_is c.nexus-nexus.ensures c.bytes.ensures c.requires.kind c.in_ok-decoded.ensures.ok c.act_of-act.ensures
          found.1 (search rules fits 100);
    }

-- what is asked moves volumes
pub judge_move-requires-clause-moves : goal.judge_move-requires-clause-moves
judge_move-requires-clause-moves g c =
    let device = g.D.DeviceServer.shown c.args.device.now.value in
    let bytes = c.args.received.now.bytes in
    let e = c.requires.errand in
    let moves = moving (drives_of device) e.request c.args.errand (asks (drives_of device) e.request c.args.errand e.asks) in
    let is : decoded_command (commands_of device) c.args.received.now.cdb bytes ≡ Ok (Device e.request) =
    ap (λ (o : Result Request CdbFault). elim o as (λ _. Result Command Condition) [ Ok q ↦ command_of q bytes | Err fault ↦ Err (condition_of_fault fault) ]) e.reads
    ∙ moves.command bytes in
    ap spells_move (c.in_ok-decoded.ensures.ok ∙ ap (λ (k : CommandSet). decoded_command k c.args.received.now.cdb bytes) c.requires.kind ∙ is) ∙ moves.moves
