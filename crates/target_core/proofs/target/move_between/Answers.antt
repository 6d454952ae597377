use Rattle.target_core.proofs.MovesInPlace.{asked_in_parts, moved_in_parts, at_luns}
use Rattle.target_core.proofs.WhyBusy.{two_busy_in_parts}
use Rattle.target_core.proofs.target.move_between.Goals as goal

pub move_two-requires : goal.move_two-requires
move_two-requires g c =
    let parts = c.split_at_mut-lower.result in
    record {
      kind = c.requires.kind;
      named = asked_in_parts c.args.changer.now c.args.drives.now parts.0.now parts.1.now c.args.received.now.cdb c.args.low c.args.high
          c.index-lower-low.result c.index-upper-0.result c.requires.ordered c.split_at_mut-lower.ensures.value
          c.split_at_mut-lower.ensures.front_len c.requires.place c.requires.rising c.requires.within c.requires.named;
    }

pub returns : goal.returns
returns g c =
    let parts = c.split_at_mut-lower.result in
    record {
      step =
          moved_in_parts c.args.changer.now c.args.drives.now parts.0.now parts.1.now c.args.received.now.nexus c.args.received.now.cdb
          c.args.received.now.bytes c.args.low c.args.high c.index-lower-low.result c.index-upper-0.result
          c.move_two.new.changer c.move_two.new.low c.move_two.new.high c.move_two.result.reply c.requires.ordered
          c.split_at_mut-lower.ensures.value c.split_at_mut-lower.ensures.front_len c.requires.place c.requires.rising c.requires.within
          c.requires.named c.move_two.ensures.units;
      busy =
          two_busy_in_parts c.args.received.now.nexus c.args.received.now.cdb c.args.received.now.bytes c.move_two.result.reply
          c.args.changer.now c.args.drives.now parts.0.now parts.1.now c.args.low c.args.high c.index-lower-low.result
          c.index-upper-0.result
          c.split_at_mut-lower.ensures.value c.split_at_mut-lower.ensures.front_len c.requires.place c.requires.rising c.requires.within
          (at_luns c.args.changer.now c.args.drives.now c.requires.ordered c.args.received.now.cdb c.args.low c.args.high c.requires.place
          c.requires.rising c.requires.named) c.move_two.ensures.busy;
    }
