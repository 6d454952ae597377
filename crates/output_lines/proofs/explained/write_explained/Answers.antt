use Rattle.std.proofs.lemmas.Grind.{common_steps}
use Rattle.std.proofs.Common.{arith}
use Rattle.output_lines.proofs.explained.write_explained.Goals as goal

pub returns-in-On : goal.returns-in-On
returns-in-On c = grind (arith, common_steps)
