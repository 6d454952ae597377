use Rattle.std.proofs.Common.{sym, ◌∙◌}
use Rattle.logical_unit.proofs.ExchangeSteps.{in_ok}
use Rattle.logical_unit.proofs.exchanges.exchange_in.Goals as goal

pub returns-then-not-reserve_for-clause-err : goal.returns-then-not-reserve_for-clause-err
returns-then-not-reserve_for-clause-err g c = (
  in_ok c.args.changer.now.unit.device c.args.drive.now.unit c.args.route c.requires.ways
      (λ volume. sym (c.takes.ensures volume) ∙ c.if-not-takes.false),
  c.reserve_for.ensures.lacks c.if-not-reserve_for.true,
)

pub put_at-requires : goal.put_at-requires
put_at-requires g c =
    c.requires.ways.places c.take_at-one.result c.take_at-other.result c.take_at-one.new.self.unit.device
    c.take_at-other.new.self.unit.device c.take_at-one.ensures.taken c.take_at-other.ensures.taken
