use Rattle.std.proofs.Common.{arith}
use Rattle.std.proofs.lemmas.Grind.{common_steps}
use Rattle.lun_router.proofs.units_by_lun.take_first.Goals as goal

pub returns-then-is_empty-clause-rest : goal.returns-then-is_empty-clause-rest
returns-then-is_empty-clause-rest g c = grind (arith, common_steps)

pub returns-then-is_empty-clause-unit : goal.returns-then-is_empty-clause-unit
returns-then-is_empty-clause-unit g c = grind (arith, common_steps)
