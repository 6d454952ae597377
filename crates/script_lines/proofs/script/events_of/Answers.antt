use Rattle.std.proofs.Common.{arith}
use Rattle.script_lines.specs.Lines.{line_in}
use Rattle.script_lines.specs.Script.{events_in}
use Rattle.script_lines.proofs.Lines.{start, step, stop, ended, counts, at_some}
use Rattle.script_lines.proofs.script.events_of.Goals as goal

pub lines-init : goal.lines-init
unfolding events_in
lines-init c = record {
  known = rw c.new-events.ensures (start _);
  counted = omega arith;
}

pub lines-preserved : goal.lines-preserved
lines-preserved c =
    let here = rw c.in-Some.is at c.lines.invariant.known in
    record {
      known = step (line_in c.args.profile) _ _ _ _ _ _ _ c.cut.ensures.parts c.in-Ok.ensures.ok here;
      counted = counts _ _ _ _ c.cut.ensures.shorter (at_some _ _ _ _ c.in-Some.is c.lines.invariant.counted);
    }

pub returns-in-Err : goal.returns-in-Err
returns-in-Err c =
    let here = rw c.in-Some.is at c.lines.invariant.known in
    stop (line_in c.args.profile) _ _ _ _ _ _ _ c.cut.ensures.parts c.in-Err.ensures.err here

pub returns : goal.returns
returns c = ended (line_in c.args.profile) _ _ _ _ c.in_default.is c.lines.invariant.known
