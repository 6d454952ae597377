use Rattle.std.proofs.Common.{length}
use Rattle.target_core.proofs.order.+are_drives.Given as goal

abbrev pub decreases-are_drives : goal.decreases-are_drives
decreases-are_drives g l = length l.units.now
