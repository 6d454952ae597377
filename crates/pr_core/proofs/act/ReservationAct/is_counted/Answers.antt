use Rattle.std.proofs.Common.{rules}
use Rattle.pr_core.proofs.act.ReservationAct.is_counted.Goals as goal

pub returns-in-Reserve : goal.returns-in-Reserve
returns-in-Reserve c = search rules fits 100
