use Rattle.std.proofs.Common.{rules}
use Rattle.pr_params.proofs.parameter_list.read_out.Goals as goal

pub returns-in-RegisterAndMove : goal.returns-in-RegisterAndMove
returns-in-RegisterAndMove c = search rules

pub returns-in_ok-read_register-in-Register : goal.returns-in_ok-read_register-in-Register
returns-in_ok-read_register-in-Register c = search rules

pub returns-in_err-read_register-in-Register : goal.returns-in_err-read_register-in-Register
returns-in_err-read_register-in-Register c = search rules

pub returns-in-Reserve : goal.returns-in-Reserve
returns-in-Reserve c = search rules
