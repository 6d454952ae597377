use Rattle.std.proofs.Common.{rules}
use Rattle.pr_params.proofs.register_list.read_register.Goals as goal

pub returns : goal.returns
returns c = search rules
