use Rattle.std.proofs.Common.{ap}
use Rattle.tape_medium.proofs.passage.pass_objects.Goals.{then-is_mark-marks, else-is_mark-marks+else-is_mark}
use Rattle.tape_medium.proofs.WayLemmas.{told-count-at, told-pass-at, told-stop-at, told-edge-at, same-bools, other-bools}
use Rattle.tape_medium.specs.Along.{edge_of}
use Rattle.tape_medium.proofs.passage.pass_objects.Goals as goal

pub returns-then-is_mark-clause-value : goal.returns-then-is_mark-clause-value
returns-then-is_mark-clause-value c =
    told-stop-at _ _ _ _ _ _ _ c.loop-over.invariant (rw (← c.reach-reach.ensures) c.loop-over-test.true) c.if-counted-todo.false c.is_mark_in_way-is_mark.ensures (other-bools _ _ c.if-is_mark-marks.false) c.if-is_mark.true

pub loop-over-preserved : goal.loop-over-preserved
loop-over-preserved c =
    elim c.if-is_mark-marks.branch [
      | then-is_mark-marks w ↦ told-count-at _ _ _ _ _ _ _ _ c.loop-over.invariant (rw (← c.reach-reach.ensures) c.loop-over-test.true) c.if-counted-todo.false c.is_mark_in_way-is_mark.ensures (same-bools _ _ w.if-is_mark-marks.true) w.counted-is
      | else-is_mark-marks+else-is_mark w ↦ told-pass-at _ _ _ _ _ _ _ _ c.loop-over.invariant (rw (← c.reach-reach.ensures) c.loop-over-test.true) c.if-counted-todo.false c.is_mark_in_way-is_mark.ensures (other-bools _ _ w.if-is_mark-marks.false) w.if-is_mark.false w.counted-is
    ]

pub returns-then-back-clause-value : goal.returns-then-back-clause-value
returns-then-back-clause-value c =
    told-edge-at _ _ _ _ _ _ _ _ c.loop-over.invariant c.reach-reach.ensures c.loop-over-test.false c.loop-over.auto.over-end c.if-counted-todo-2.false (ap edge_of c.if-back.true)

pub returns-else-back-clause-value : goal.returns-else-back-clause-value
returns-else-back-clause-value c =
    told-edge-at _ _ _ _ _ _ _ _ c.loop-over.invariant c.reach-reach.ensures c.loop-over-test.false c.loop-over.auto.over-end c.if-counted-todo-2.false (ap edge_of c.if-back.false)
