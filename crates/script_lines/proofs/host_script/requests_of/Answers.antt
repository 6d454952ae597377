use Rattle.script_lines.specs.Requests.{request_line_in}
use Rattle.script_lines.proofs.Lines.{step, stop, ended, counts, at_some}
use Rattle.script_lines.proofs.Limits.{requests_within}
use Rattle.script_lines.proofs.host_script.requests_of.Goals as goal

pub lines-preserved : goal.lines-preserved
lines-preserved c =
    let here = rw c.in-Some.is at c.lines.invariant.known in
    record {
      known = step (request_line_in c.args.profile) _ _ _ _ _ _ _ c.cut.ensures.parts c.in-Ok.ensures.ok here;
      counted = counts _ _ _ _ c.cut.ensures.shorter (at_some _ _ _ _ c.in-Some.is c.lines.invariant.counted);
    }

pub returns-in-Err : goal.returns-in-Err
returns-in-Err c =
    let here = rw c.in-Some.is at c.lines.invariant.known in
    record { requests = stop (request_line_in c.args.profile) _ _ _ _ _ _ _ c.cut.ensures.parts c.in-Err.ensures.err here; within = tt }

pub returns : goal.returns
returns c =
    let all = ended (request_line_in c.args.profile) _ _ _ _ c.in_default.is c.lines.invariant.known in
    record { requests = all; within = requests_within c.args.profile _ _ all }
