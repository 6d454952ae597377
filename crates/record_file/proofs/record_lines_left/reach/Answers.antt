use Rattle.std.proofs.Common.{arith}
use Rattle.std.proofs.lemmas.Grind.{common_steps}
use Rattle.record_file.proofs.record_lines_left.reach.Goals as goal

pub units-smaller : goal.units-smaller
units-smaller c = grind (arith, common_steps)
