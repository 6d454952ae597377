use Rattle.std.proofs.Common.{◌-◌, ◌<◌, length, arith}
use Rattle.target_core.proofs.MovesInPlace.{one_asked, one_moved, at_lun}
use Rattle.target_core.proofs.WhyBusy.{one_busy}
use Rattle.target_core.proofs.target.move_at.Goals as goal

pub move_one-requires : goal.move_one-requires
move_one-requires g c =
    record {
      kind = c.requires.kind;
      named = one_asked c.args.changer.now c.args.drives.now c.requires.ordered c.args.received.now.cdb (c.args.lun - 1)
          c.index-drives-lun.result (omega (arith, c.requires.place, c.requires.within))
          (at_lun c.args.changer.now c.args.drives.now c.requires.ordered c.args.received.now.cdb c.args.lun c.requires.place
          c.requires.named);
    }

pub returns : goal.returns
returns g c =
    let within : c.args.lun - 1 < length c.args.drives.now = omega (arith, c.requires.place, c.requires.within) in
    let names = at_lun c.args.changer.now c.args.drives.now c.requires.ordered c.args.received.now.cdb c.args.lun c.requires.place
    c.requires.named in
    record {
      step =
          one_moved c.args.changer.now c.args.drives.now c.requires.ordered c.args.received.now.nexus c.args.received.now.cdb
          c.args.received.now.bytes (c.args.lun - 1) c.index-drives-lun.result c.move_one.new.changer c.move_one.new.drive
          c.move_one.result.reply
          within names c.move_one.ensures.units;
      busy = one_busy c.args.received.now.nexus c.args.received.now.cdb c.args.received.now.bytes c.move_one.result.reply c.args.changer.now
          c.args.drives.now (c.args.lun - 1) c.index-drives-lun.result within names c.move_one.ensures.busy;
    }
