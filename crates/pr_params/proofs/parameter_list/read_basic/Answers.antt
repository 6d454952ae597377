use Rattle.std.proofs.lemmas.Grind.{common_steps}
use Rattle.std.proofs.Common.{arith}
use Rattle.pr_params.proofs.parameter_list.read_basic.Goals as goal

pub returns : goal.returns
returns c = grind (arith, common_steps)
