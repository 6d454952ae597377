use Rattle.std.proofs.Common.{length}
use Rattle.target_core.proofs.order.+agree.Given as goal

abbrev pub decreases-agree : goal.decreases-agree
decreases-agree g l = length l.drives.now
