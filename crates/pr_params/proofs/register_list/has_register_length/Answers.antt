use Rattle.std.proofs.Common.{arith}
use Rattle.std.proofs.lemmas.Grind.{common_steps}
use Rattle.pr_params.proofs.register_list.has_register_length.Goals as goal

pub returns : goal.returns
returns c = grind (arith, common_steps)
