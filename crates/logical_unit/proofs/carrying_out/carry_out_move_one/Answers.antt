use Rattle.std.proofs.Common.{◌≡◌, [], ℕ, List, sym, ap, ◌∙◌}
use Rattle.scsi_cdb.specs.declared.classes.Class.{Class}
use Rattle.logical_unit.specs.declared.act_kind.ActKind.{ActKind}
use Rattle.logical_unit.specs.declared.act_kind.ActKind.TheVariants as kind
use Rattle.device_server.specs.View.{commands_of}
use Rattle.judgement.specs.Commands.{act_of, act_of_decoded}
use Rattle.judgement.specs.Received.{command_in}
use Rattle.logical_unit.specs.ActKinds.{act_kind_of, act_kind_if}
use Rattle.logical_unit.proofs.Carried.{one_settled, one_told}
use Rattle.logical_unit.proofs.ErrandTold.{kind_told, volume_told}
use Rattle.logical_unit.proofs.SameUnits.{one_same}
use Rattle.logical_unit.proofs.carrying_out.carry_out_move_one.Goals as goal

pub returns-clause-act : goal.returns-clause-act
returns-clause-act g c =
    let told = kind_told c.args.changer.now.unit.device c.args.received.now c.errand_in-errand.result c.requires.kind c.errand_in-errand.ensures.errand in
    c.done_with.ensures.act ∙ c.recorded_kind-act.ensures
    ∙ ap (λ (k : ActKind). act_kind_if c.as_slice.result.now k) (ap (λ (x : Class). kind.Command x) c.class.ensures ∙ sym told)
    ∙ ap (λ (ns : List (ℕ × ℕ)). act_kind_if ns (act_kind_of (act_of_decoded (command_in c.args.received.now)))) (c.as_slice.ensures.value ∙ sym c.done_with.ensures.numbers)

pub returns-clause-volume : goal.returns-clause-volume
returns-clause-volume g c =
    let same = one_same c.args.changer.now.unit c.args.drive.now.unit c.move_one_for-receipt.new.changer.unit c.move_one_for-receipt.new.drive.unit
    c.args.received.now.nexus c.args.received.now.cdb c.args.received.now.bytes c.move_one_for-receipt.result.reply
    c.args.drive.now.unit.state.lun [] c.requires.named c.move_one_for-receipt.ensures.units in
    c.done_with.ensures.volume ∙ c.volume_at_end-volume.ensures
    ∙ volume_told c.args.changer.now.unit.device c.move_one_for-receipt.new.changer.unit.device c.args.received.now.cdb c.errand_in-errand.result
    c.errand_in-errand.ensures.changer c.errand_in-errand.ensures.errand same.0.device

pub returns-clause-unnumbered : goal.returns-clause-unnumbered
returns-clause-unnumbered g c = λ none.
    (let told = one_told c.args.changer.now.unit c.args.drive.now.unit c.move_one_for-receipt.new.changer.unit c.move_one_for-receipt.new.drive.unit
    (act_of (commands_of c.args.changer.now.unit.device) c.args.received.now.cdb c.args.received.now.bytes) c.move_one_for-receipt.result.reply
    c.move_one_for-receipt.result.numbers.items
    (one_settled c.args.changer.now.unit c.args.drive.now.unit c.move_one_for-receipt.new.changer.unit c.move_one_for-receipt.new.drive.unit
    c.args.received.now.nexus c.args.received.now.cdb c.args.received.now.bytes c.move_one_for-receipt.result.reply
    c.args.drive.now.unit.state.lun [] c.requires.named c.move_one_for-receipt.ensures.units) c.move_one_for-receipt.ensures.numbers in
    c.done_with.ensures.reply ∙ told.unnumbered (sym c.done_with.ensures.numbers ∙ none))

pub returns-clause-step : goal.returns-clause-step
returns-clause-step g c = rw c.done_with.ensures.reply c.move_one_for-receipt.ensures.units
