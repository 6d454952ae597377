use Rattle.target_core.proofs.Places.{loses_at}
use Rattle.target_core.proofs.WhyBusy.{record_busy}
use Rattle.target_core.proofs.target.lose_at.Goals as goal

pub returns : goal.returns
returns g c =
    record {
      step = loses_at c.args.units.now c.args.lun c.index-units-lun.result c.lose_reply.new.self c.requires c.args.nexus c.lose_reply.result c.lose_reply.ensures.unit;
      busy = record_busy c.args.units.now c.args.lun c.index-units-lun.result c.lose_reply.result c.requires c.lose_reply.ensures.busy;
    }
