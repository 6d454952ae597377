use Rattle.script_lines.proofs.WholeWords.{request_fails, request_whole}
use Rattle.script_lines.proofs.request_line.command_of.Goals as goal

pub returns-in-Ok : goal.returns-in-Ok
returns-in-Ok c = rw c.in-Some.ensures (request_whole c.args.profile c.in-Some.words _ c.in-Ok.ensures)

pub returns-in-Err : goal.returns-in-Err
returns-in-Err c = rw c.in-Some.ensures (request_fails c.args.profile c.in-Some.words c.in-Err.error c.fault_of.result c.fault_of.ensures c.in-Err.ensures)
