use Rattle.std.proofs.Common.{length, arith, ap, length-append, sym, ◌∙◌}
use Rattle.tape_medium.specs.Tape.{object_at}
use Rattle.tape_server.proofs.RunLemmas.{run-stopped, run-stepped, room-next, length-whole_bytes}
use Rattle.tape_server.proofs.reading.read_run.Goals as goal

pub returns-then-is_some-clause-bytes : goal.returns-then-is_some-clause-bytes
returns-then-is_some-clause-bytes c = (run-stopped _ _ _ _ _ _ _ _ _ _ c.read_whole-met.ensures.met (sym c.is_some.ensures ∙ c.if-is_some.true) c.read_whole-met.ensures.after c.read_whole-met.ensures.bytes c.loop-done-test.true c.loop-done.invariant.so).bytes

pub returns-then-is_some-clause-done : goal.returns-then-is_some-clause-done
returns-then-is_some-clause-done c = (run-stopped _ _ _ _ _ _ _ _ _ _ c.read_whole-met.ensures.met (sym c.is_some.ensures ∙ c.if-is_some.true) c.read_whole-met.ensures.after c.read_whole-met.ensures.bytes c.loop-done-test.true c.loop-done.invariant.so).done

pub returns-then-is_some-clause-met : goal.returns-then-is_some-clause-met
returns-then-is_some-clause-met c = (run-stopped _ _ _ _ _ _ _ _ _ _ c.read_whole-met.ensures.met (sym c.is_some.ensures ∙ c.if-is_some.true) c.read_whole-met.ensures.after c.read_whole-met.ensures.bytes c.loop-done-test.true c.loop-done.invariant.so).met

pub returns-then-is_some-clause-after : goal.returns-then-is_some-clause-after
returns-then-is_some-clause-after c = (run-stopped _ _ _ _ _ _ _ _ _ _ c.read_whole-met.ensures.met (sym c.is_some.ensures ∙ c.if-is_some.true) c.read_whole-met.ensures.after c.read_whole-met.ensures.bytes c.loop-done-test.true c.loop-done.invariant.so).after

pub loop-done-preserved : goal.loop-done-preserved
loop-done-preserved c =
    let step = room-next c.loop-done.done c.args.count c.args.size c.loop-done-test.true in
    let few = length-whole_bytes c.args.size (object_at c.loop-done.tape) in
    let grown = simp length-append at (ap length c.read_whole-met.ensures.bytes) in
    record {
      so = run-stepped _ _ _ _ _ _ _ _ _ _ c.read_whole-met.ensures.met (sym c.is_some.ensures ∙ c.if-is_some.false) c.read_whole-met.ensures.after c.read_whole-met.ensures.bytes c.loop-done-test.true c.loop-done.invariant.so;
      room = omega arith;
    }
