use Rattle.std.proofs.Common.{arith}
use Rattle.std.proofs.lemmas.Grind.{common_steps}
use Rattle.kept_unit.proofs.ranges.add_ranges.Goals as goal

pub returns : goal.returns
returns c = grind (arith, common_steps)

pub loop-range-preserved : goal.loop-range-preserved
loop-range-preserved c = grind (arith, common_steps)
