use Rattle.std.proofs.Common.{Option, sym, ap, ◌∙◌, subst}
use Rattle.std.specs.Prelude.{IsOk}
use Rattle.tape_medium.specs.declared.volume.VolumeTag.{VolumeTag}
use Rattle.device_server.specs.View.{taken}
use Rattle.logical_unit.specs.Move.{given}
use Rattle.logical_unit.specs.UnitView.{UnitWithRoom}
use Rattle.logical_unit.proofs.ExchangeSteps.{out_ok}
use Rattle.logical_unit.proofs.exchanges.exchange_out.Goals as goal

pub returns-then-not-reserve_for-clause-err : goal.returns-then-not-reserve_for-clause-err
returns-then-not-reserve_for-clause-err g c = (
  out_ok c.args.changer.now.unit.device c.args.drive.now.unit c.args.route c.requires.ways
      (subst (λ (mark : Option VolumeTag). IsOk (given mark c.args.drive.now.unit)) c.held-mark.ensures c.in_default.ensures.ok),
  c.reserve_for.ensures.lacks c.if-not-reserve_for.true,
)

pub put_at-requires : goal.put_at-requires
put_at-requires g c =
    c.requires.ways.places c.take_at-other.result c.take_out-one.result.0 c.take_at-other.new.self.unit.device
    (ap (λ (u : UnitWithRoom). taken u.unit.device c.args.route.first) (sym c.note_at.ensures) ∙ c.take_at-other.ensures.taken)
