use Rattle.std.proofs.Common.{arith}
use Rattle.std.proofs.lemmas.Grind.{common_steps}
use Rattle.kept_unit.proofs.ranges.add_numbers.Goals as goal

pub returns : goal.returns
returns c = grind (arith, common_steps)

pub loop-pair-preserved : goal.loop-pair-preserved
loop-pair-preserved c = grind (arith, common_steps)
