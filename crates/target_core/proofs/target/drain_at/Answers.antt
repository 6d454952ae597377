use Rattle.target_core.proofs.Places.{drains_at}
use Rattle.target_core.proofs.target.drain_at.Goals as goal

pub returns : goal.returns
returns g c = drains_at c.args.units.now c.args.lun c.index-units-lun.result c.drain.new.self c.requires c.drain.result.items c.drain.ensures.records c.drain.ensures.unit c.drain.ensures.trail
