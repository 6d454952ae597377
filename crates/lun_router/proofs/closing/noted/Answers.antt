use Rattle.std.proofs.Common.{arith}
use Rattle.std.proofs.lemmas.Grind.{common_steps}
use Rattle.lun_router.proofs.closing.noted.Goals as goal

pub loop-seat-preserved : goal.loop-seat-preserved
loop-seat-preserved g c = grind (arith, common_steps)

pub returns : goal.returns
returns g c = grind (arith, common_steps)
