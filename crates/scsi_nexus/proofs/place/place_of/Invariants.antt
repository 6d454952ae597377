use Rattle.std.proofs.Common.{◌-◌, ◌≤◌, length}
use Rattle.scsi_nexus.specs.Place.{IsAbove, IsBelow}
use Rattle.scsi_nexus.proofs.place.place_of.Given as goal

abbrev pub invariant-halves : goal.invariant-halves
invariant-halves g l = record {
  order : l.low ≤ l.high;
  within : l.high ≤ length l.entries;
  above : IsAbove l.nexus l.entries l.low;
  below : IsBelow l.nexus l.entries l.high;
}

abbrev pub decreases-halves : goal.decreases-halves
decreases-halves g l = l.high - l.low
