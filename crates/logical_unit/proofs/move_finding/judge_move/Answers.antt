use Rattle.std.proofs.Common.{◌≡◌, false, sym, ap, ◌∙◌, Result}
use Rattle.scsi_sense.specs.declared.condition.Condition.{Condition}
use Rattle.judgement.specs.declared.command.Command.{Command}
use Rattle.judgement.specs.Decisions.{in_cell}
use Rattle.judgement.specs.Judge.{judged_as}
use Rattle.judgement.specs.UnitState.{after_contact}
use Rattle.logical_unit.proofs.LeftUnasked.{leaves_as, answered_alone, ends_before, left_at}
use Rattle.logical_unit.proofs.move_finding.judge_move.Given as given
use Rattle.logical_unit.proofs.move_finding.judge_move.Goals.{in_default-via-in-Ok+else-leaves, in_default-via-in_default}
use Rattle.logical_unit.proofs.move_finding.judge_move.Goals as goal

kept_by_device : (g : given.Over) (c : goal.After-decision-1 g) → leaves_as (g.D.DeviceServer.shown c.args.device.now.value)
    c.args.decoded.now ≡ false
kept_by_device g c = elim c.in_default.branch [
  | in_default-via-in-Ok+else-leaves w ↦ ap (leaves_as (g.D.DeviceServer.shown c.args.device.now.value)) w.in-Ok.is ∙ sym w.leaves.ensures ∙
      w.if-leaves.false
  | in_default-via-in_default w ↦ ap (leaves_as (g.D.DeviceServer.shown c.args.device.now.value)) w.in_default.is
]

pub returns-in_default-clause-ok : goal.returns-in_default-clause-ok
returns-in_default-clause-ok g c = (
  answered_alone (g.D.DeviceServer.shown c.args.device.now.value) (after_contact c.args.state.now c.args.nexus) c.args.nexus
      c.args.decoded.now
      (record { device = g.D.DeviceServer.shown c.judge.new.device.value; state = c.judge.new.state }) c.in_ok-decision-in_default.decision
      c.in_ok-decision-in_default.reply c.args.bytes.now
      c.requires.changer c.requires.moves (kept_by_device g c) c.in_ok-decision-in_default.ensures.ok,
  c.in_ok-decision-in_default.ensures.ok,
)

pub returns-in-Ended-clause-ok : goal.returns-in-Ended-clause-ok
returns-in-Ended-clause-ok g c = (
  ends_before (g.D.DeviceServer.shown c.args.device.now.value) c.args.state.now c.stands_before.new.state c.args.nexus c.args.decoded.now
      c.in-Ok.command c.in-Ended.decision c.in-Ended.reply c.args.bytes.now
      c.requires.changer c.in-Ok.is c.requires.moves c.in-Ended.ensures,
  ap (λ (s : Result Command Condition). judged_as (record {
    device = g.D.DeviceServer.shown c.args.device.now.value;
    state = after_contact
        c.args.state.now c.args.nexus;
  }) c.args.nexus s c.args.bytes.now) c.in-Ok.is
      ∙ c.in-Ended.ensures.ended (g.D.DeviceServer.shown c.args.device.now.value) c.args.bytes.now,
)

pub returns-in-LetThrough-clause-ok : goal.returns-in-LetThrough-clause-ok
returns-in-LetThrough-clause-ok g c =
    left_at (g.D.DeviceServer.shown c.args.device.now.value) c.args.state.now c.stands_before.new.state c.args.nexus c.args.decoded.now
    c.in-Ok.command c.in-LetThrough.cell c.args.bytes.now c.make_contact.new.self c.in_cell.result
    c.requires.changer c.in-Ok.is c.requires.moves (sym c.leaves.ensures ∙ c.if-leaves.true) c.in-LetThrough.ensures
    c.make_contact.ensures (c.in_cell.ensures ∙ ap (in_cell c.in-LetThrough.cell) c.at_device.ensures)
