use Rattle.std.proofs.Common.{rules}
use Rattle.pr_core.proofs.act.ReservationAct.told.Goals as goal

pub returns-then-after-eq0 : goal.returns-then-after-eq0
returns-then-after-eq0 c = search rules fits 100
