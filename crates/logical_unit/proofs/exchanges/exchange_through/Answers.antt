use Rattle.std.proofs.Common.{◌≡◌, Option, Some, None, sym, ap, ◌∙◌, subst}
use Rattle.std.specs.Prelude.{IsOk}
use Rattle.tape_medium.specs.declared.volume.VolumeTag.{VolumeTag}
use Rattle.device_server.specs.View.{DeviceView, put}
use Rattle.logical_unit.specs.Medium.{taken_out}
use Rattle.logical_unit.specs.Move.{given, noting}
use Rattle.logical_unit.specs.UnitView.{UnitWithRoom}
use Rattle.logical_unit.proofs.ExchangeSteps.{through_refused, through_is, through_ok}
use Rattle.logical_unit.proofs.exchanges.exchange_through.Goals as goal

pub returns-in-Err-clause-err : goal.returns-in-Err-clause-err
returns-in-Err-clause-err g c =
    through_refused c.args.changer.now.unit.device c.args.drive.now.unit c.args.route c.requires.ways c.in-Err.condition
    (ap (λ (mark : Option VolumeTag). given mark c.args.drive.now.unit) (sym c.held-mark.ensures) ∙ c.in-Err.ensures.err)

pub returns-then-not-reserve_for-clause-err : goal.returns-then-not-reserve_for-clause-err
returns-then-not-reserve_for-clause-err g c = (
  through_ok c.args.changer.now.unit.device c.args.drive.now.unit c.args.route c.requires.ways
      (subst (λ (mark : Option VolumeTag). IsOk (given mark c.args.drive.now.unit)) c.held-mark.ensures c.in_default.ensures.ok),
  c.reserve_for.ensures.lacks c.if-not-reserve_for.true,
)

pub returns-clause-ok : goal.returns-clause-ok
returns-clause-ok g c =
    let first = c.args.route.first in
    let tag = c.take_at-one.result.tag in
    let c1 : DeviceView = c.take_at-one.new.self.unit.device in
    let noted : c.note_at-2.new.self.unit.device ≡ noting (noting c1 first None) first (Some tag) =
    ap (λ (u : UnitWithRoom). u.unit.device) c.note_at-2.ensures ∙ ap (λ (u : UnitWithRoom). noting u.unit.device first (Some tag)) c.note_at.ensures in
    through_is c.args.changer.now.unit.device c.args.drive.now.unit c.args.route c.requires.ways c.take_at-one.result
    c.take_out-other.result.0 c.take_out-other.new.drive.unit c.take_in.new.drive.unit c1 c.put_at.new.self.unit.device
    (subst (λ (mark : Option VolumeTag). IsOk (given mark c.args.drive.now.unit)) c.held-mark.ensures c.in_default.ensures.ok)
    c.take_at-one.ensures.taken (ap taken_out (sym c.reserve_for.ensures.unit) ∙ c.take_out-other.ensures.unit) c.take_in.ensures.unit
    (ap (λ (d : DeviceView). put d c.args.route.second c.take_out-other.result.0) (sym noted) ∙ c.put_at.ensures.put)
