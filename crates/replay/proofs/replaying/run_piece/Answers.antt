use Rattle.std.proofs.Common.{sym, ◌∙◌, arith}
use Rattle.std.proofs.lemmas.List.{take_all}
use Rattle.logical_unit.specs.UnitView.{units_of}
use Rattle.replay.proofs.RunLemmas.{prints_on, with_line, no_line}
use Rattle.replay.proofs.replaying.run_piece.Goals as goal
use Rattle.replay.proofs.replaying.run_piece.Goals.{then-is_ok, else-is_ok}

pub returns : goal.returns
returns g c =
    let all = take_all c.loop-event.event-index c.args.events.now (omega (arith, c.loop-event-test.false)) in
    (c.loop-event.invariant.replies, rw all at c.loop-event.invariant.run, rw all at c.loop-event.invariant.lines)

pub loop-event-preserved : goal.loop-event-preserved
loop-event-preserved g c =
    elim c.if-is_ok.branch [
      | then-is_ok w ↦
          rw (w.written-is, w.text-is)
          (prints_on _ _ c.event-item.result c.step-reply.result (units_of c.step-reply.new.self) _ _ c.loop-event.invariant c.loop-event-test.true c.event-item.is c.step-reply.ensures.step
          (with_line _ _ _ (sym c.is_ok.ensures.value ∙ w.if-is_ok.true) w.write_event-written.ensures))
      | else-is_ok w ↦
          rw (w.written-is, w.text-is)
          (prints_on _ _ c.event-item.result c.step-reply.result (units_of c.step-reply.new.self) _ _ c.loop-event.invariant c.loop-event-test.true c.event-item.is c.step-reply.ensures.step
          (no_line _ _ (sym c.is_ok.ensures.value ∙ w.if-is_ok.false)))
    ]
