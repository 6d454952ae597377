use Rattle.target_core.proofs.Places.{commands_at}
use Rattle.target_core.proofs.WhyBusy.{drive_busy}
use Rattle.target_core.proofs.target.command_at.Goals as goal

pub returns : goal.returns
returns g c =
    record {
      step = commands_at c.args.units.now c.args.lun c.index-units-lun.result c.execute_at.new.unit c.requires.within c.args.nexus
          c.args.cdb.now c.args.bytes.now c.execute_at.result c.requires.drive c.execute_at.ensures.unit;
      busy = drive_busy c.args.nexus c.args.cdb.now c.args.bytes.now c.execute_at.result c.args.units.now c.args.lun
          c.index-units-lun.result c.requires.within c.requires.drive c.execute_at.ensures.busy;
    }
