use Rattle.target_core.proofs.Places.{resets_at}
use Rattle.target_core.proofs.WhyBusy.{record_busy}
use Rattle.target_core.proofs.target.reset_at.Goals as goal

pub returns : goal.returns
returns g c =
    record {
      step = resets_at c.args.units.now c.args.lun c.index-units-lun.result c.reset_reply.new.self c.requires c.reset_reply.result c.reset_reply.ensures.unit;
      busy = record_busy c.args.units.now c.args.lun c.index-units-lun.result c.reset_reply.result c.requires c.reset_reply.ensures.busy;
    }
