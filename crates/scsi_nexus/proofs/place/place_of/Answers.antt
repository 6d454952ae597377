use Rattle.std.proofs.Common.{◌+◌, ◌-◌, ◌/◌, ◌<◌, length, sym, arith}
use Rattle.scsi_nexus.proofs.PlaceLemmas.{above_more, below_more, found_at}
use Rattle.scsi_nexus.proofs.place.place_of.Goals as goal

pub halves-preserved-in-Less : goal.halves-preserved-in-Less
halves-preserved-in-Less g c =
    let before = c.halves.invariant in
    let within : c.halves.low + (c.halves.high - c.halves.low) / 2 < length c.args.entries.now = omega (arith, before.within, c.halves-test.true) in
    record {
      order = omega (arith, c.halves-test.true);
      within = before.within;
      above = above_more c.args.nexus c.args.entries.now _ c.index-entries-middle.result c.requires within (sym c.in-Less.ensures);
      below = before.below;
    }

pub halves-preserved : goal.halves-preserved
halves-preserved g c =
    let before = c.halves.invariant in
    let within : c.halves.low + (c.halves.high - c.halves.low) / 2 < length c.args.entries.now = omega (arith, before.within, c.halves-test.true) in
    record {
      order = omega arith;
      within = omega (arith, within);
      above = before.above;
      below = below_more c.args.nexus c.args.entries.now _ c.index-entries-middle.result c.requires within (sym c.in-Greater.ensures);
    }

pub returns-in-Equal : goal.returns-in-Equal
returns-in-Equal g c =
    let before = c.halves.invariant in
    let within : c.halves.low + (c.halves.high - c.halves.low) / 2 < length c.args.entries.now = omega (arith, before.within, c.halves-test.true) in
    found_at c.args.nexus c.args.entries.now _ c.index-entries-middle.result c.requires within (sym c.in-Equal.ensures)
