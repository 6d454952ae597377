use Rattle.std.proofs.Common.{sym, ap, ◌∙◌}
use Rattle.device_server.specs.View.{taken}
use Rattle.logical_unit.specs.UnitView.{UnitWithRoom}
use Rattle.logical_unit.proofs.exchanges.exchange_both.Goals as goal

pub put_at-requires : goal.put_at-requires
put_at-requires g c =
    c.requires.ways.places c.take_at-other.result c.take_out-one.result.0 c.take_at-other.new.self.unit.device
    (ap (λ (u : UnitWithRoom). taken u.unit.device c.args.route.first) (sym c.note_at.ensures) ∙ c.take_at-other.ensures.taken)
