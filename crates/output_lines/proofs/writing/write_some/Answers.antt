use Rattle.std.proofs.Common.{◌≡◌, length, arith, rules}
use Rattle.output_lines.proofs.Written.{wrote_none, wrote_more, wrote_kept, wrote_some}
use Rattle.output_lines.proofs.writing.write_some.Goals as goal

pub writes-init : goal.writes-init
writes-init g c = wrote_none (g.W.Write.contents c.args.writer.now) c.args.bytes.now

pub writes-preserved : goal.writes-preserved
writes-preserved g c = wrote_more _ _ _ c.args.bytes.now c.writes.rest.now c.split_at.result.1.now c.in-Ok.count c.split_at.ensures.back c.writes.invariant c.in-Ok.ensures.bytes

pub returns-clause-written : goal.returns-clause-written
returns-clause-written g c =
    let none : length c.writes.rest.now ≡ 0 = search rules in
    wrote_some _ _ c.args.bytes.now c.writes.rest.now (length c.args.bytes.now) c.writes.invariant (omega (arith, none))

pub returns-in-Ok-eq0-clause-written : goal.returns-in-Ok-eq0-clause-written
returns-in-Ok-eq0-clause-written g c = search (rules, wrote_some, wrote_kept)
