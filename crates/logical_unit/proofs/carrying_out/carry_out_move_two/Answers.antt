use Rattle.std.proofs.Common.{◌≡◌, ◌∷◌, [], ℕ, List, sym, ap, ◌∙◌}
use Rattle.scsi_cdb.specs.declared.classes.Class.{Class}
use Rattle.logical_unit.specs.declared.act_kind.ActKind.{ActKind}
use Rattle.logical_unit.specs.declared.act_kind.ActKind.TheVariants as kind
use Rattle.logical_unit.specs.declared.route.Errand.TheVariants.{Move}
use Rattle.device_server.specs.View.{commands_of}
use Rattle.judgement.specs.Commands.{act_of, act_of_decoded}
use Rattle.judgement.specs.Received.{command_in}
use Rattle.logical_unit.specs.ActKinds.{act_kind_of, act_kind_if}
use Rattle.logical_unit.proofs.Carried.{two_settled, two_told}
use Rattle.logical_unit.proofs.ErrandTold.{kind_told, volume_told}
use Rattle.logical_unit.proofs.SameUnits.{two_same}
use Rattle.logical_unit.proofs.carrying_out.carry_out_move_two.Goals as goal

pub returns-clause-act : goal.returns-clause-act
returns-clause-act g c =
    let told = kind_told c.args.changer.now.unit.device c.args.received.now (Move c.route_in-route.result) c.requires.kind c.route_in-route.ensures.errand in
    c.done_with.ensures.act ∙ c.recorded_kind-act.ensures
    ∙ ap (λ (k : ActKind). act_kind_if c.as_slice.result.now k) (ap (λ (x : Class). kind.Command x) c.class.ensures ∙ sym told)
    ∙ ap (λ (ns : List (ℕ × ℕ)). act_kind_if ns (act_kind_of (act_of_decoded (command_in c.args.received.now)))) (c.as_slice.ensures.value ∙ sym c.done_with.ensures.numbers)

pub returns-clause-volume : goal.returns-clause-volume
returns-clause-volume g c =
    let same = two_same c.args.changer.now.unit c.move_two_for-receipt.new.changer.unit
    (record { low = c.args.low.now.unit; high = c.args.high.now.unit }) (record
    { low = c.move_two_for-receipt.new.low.unit; high = c.move_two_for-receipt.new.high.unit }) c.args.received.now.nexus
    c.args.received.now.cdb c.args.received.now.bytes c.move_two_for-receipt.result.reply c.args.low.now.unit.state.lun
    (c.args.high.now.unit.state.lun ∷ []) c.requires.named c.move_two_for-receipt.ensures.units in
    c.done_with.ensures.volume ∙ c.volume_at_end-volume.ensures
    ∙ volume_told c.args.changer.now.unit.device c.move_two_for-receipt.new.changer.unit.device c.args.received.now.cdb (Move c.route_in-route.result)
    c.route_in-route.ensures.changer c.route_in-route.ensures.errand same.0.device

pub returns-clause-unnumbered : goal.returns-clause-unnumbered
returns-clause-unnumbered g c = λ none.
    (let told = two_told c.args.changer.now.unit c.move_two_for-receipt.new.changer.unit
    (record { low = c.args.low.now.unit; high = c.args.high.now.unit }) (record
    { low = c.move_two_for-receipt.new.low.unit; high = c.move_two_for-receipt.new.high.unit })
    (act_of (commands_of c.args.changer.now.unit.device) c.args.received.now.cdb c.args.received.now.bytes) c.move_two_for-receipt.result.reply
    c.move_two_for-receipt.result.numbers.items
    (two_settled c.args.changer.now.unit c.move_two_for-receipt.new.changer.unit (record
    { low = c.args.low.now.unit; high = c.args.high.now.unit }) (record {
      low = c.move_two_for-receipt.new.low.unit;
      high =
          c.move_two_for-receipt.new.high.unit;
    }) c.args.received.now.nexus c.args.received.now.cdb c.args.received.now.bytes
    c.move_two_for-receipt.result.reply c.args.low.now.unit.state.lun (c.args.high.now.unit.state.lun ∷ []) c.requires.named
    c.move_two_for-receipt.ensures.units) c.move_two_for-receipt.ensures.numbers in
    c.done_with.ensures.reply ∙ told.unnumbered (sym c.done_with.ensures.numbers ∙ none))

pub returns-clause-step : goal.returns-clause-step
returns-clause-step g c = rw c.done_with.ensures.reply c.move_two_for-receipt.ensures.units
