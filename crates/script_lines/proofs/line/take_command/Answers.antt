use Rattle.script_lines.proofs.WholeWords.{command_fails, command_whole}
use Rattle.script_lines.proofs.line.take_command.Goals as goal

pub returns-in-Ok-clause-ok : goal.returns-in-Ok-clause-ok
returns-in-Ok-clause-ok c = rw c.in-Some.ensures (command_whole c.args.profile c.in-Some.words _ _ c.in-Ok.ensures.ok)

pub returns-in-Err-clause-err : goal.returns-in-Err-clause-err
returns-in-Err-clause-err c = rw c.in-Some.ensures (command_fails c.args.profile c.in-Some.words c.in-Err.error c.fault_of.result c.fault_of.ensures c.in-Err.ensures.err)
