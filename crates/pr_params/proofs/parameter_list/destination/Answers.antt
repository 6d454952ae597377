use Rattle.std.proofs.Common.{sym}
use Rattle.pr_params.proofs.ListLaws.{names_nobody}
use Rattle.pr_params.proofs.parameter_list.destination.Goals as goal

pub returns-in-Err : goal.returns-in-Err
returns-in-Err c = sym (names_nobody c.args.bytes.now c.in-Err.ensures.address)
