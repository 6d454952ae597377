use Rattle.std.proofs.Common.{arith}
use Rattle.std.proofs.lemmas.Grind.{common_steps}
use Rattle.output_lines.proofs.left_lines.start_of_line.Goals as goal

pub bytes-init : goal.bytes-init
bytes-init c = grind (arith, common_steps)

pub bytes-preserved : goal.bytes-preserved
bytes-preserved c = grind (arith, common_steps)

pub bytes-smaller : goal.bytes-smaller
bytes-smaller c = grind (arith, common_steps)

pub returns-else-bytes-start-ne10 : goal.returns-else-bytes-start-ne10
returns-else-bytes-start-ne10 c = grind (arith, common_steps)
