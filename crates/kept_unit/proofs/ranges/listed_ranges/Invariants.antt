use Rattle.std.proofs.Common.{◌≡◌, take}
use Rattle.kept_unit.specs.Listing.{listed_at}
use Rattle.kept_unit.specs.Ranges.{numbers_in_ranges}
use Rattle.kept_unit.proofs.ranges.listed_ranges.Given as goal

abbrev pub invariant-loop-entry : goal.invariant-loop-entry
invariant-loop-entry l = numbers_in_ranges l.ranges.items ≡ listed_at l.lun (take l.entry-index l.entries)
