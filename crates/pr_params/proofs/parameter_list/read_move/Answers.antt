use Rattle.std.proofs.lemmas.Grind.{elements}
use Rattle.std.proofs.Common.{arith}
use Rattle.pr_params.proofs.parameter_list.read_move.Goals as goal

pub returns : goal.returns
returns c = grind (arith, elements)
