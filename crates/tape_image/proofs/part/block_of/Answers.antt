use Rattle.std.proofs.Common.{arith}
use Rattle.std.proofs.lemmas.Grind.{common_steps}
use Rattle.tape_image.proofs.part.block_of.Goals as goal

pub returns-then-read_u32-size-clause-part : goal.returns-then-read_u32-size-clause-part
returns-then-read_u32-size-clause-part c = grind (arith, common_steps)

pub returns-clause-part : goal.returns-clause-part
returns-clause-part c = grind (arith, common_steps)
