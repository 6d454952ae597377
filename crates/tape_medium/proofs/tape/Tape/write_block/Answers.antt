use Rattle.std.proofs.Common.{arith}
use Rattle.std.proofs.lemmas.Grind.{common_steps}
use Rattle.tape_medium.proofs.tape.Tape.write_block.Goals as goal

pub overflow_add-bytes_before : goal.overflow_add-bytes_before
overflow_add-bytes_before c = grind (arith, common_steps)
