use Rattle.std.proofs.Common.{arith}
use Rattle.lun_router.proofs.PartsRising.{rises, stays}
use Rattle.lun_router.proofs.all_locks.UnitLocks.step.Goals as goal

pub returns-in-1-clause-rise : goal.returns-in-1-clause-rise
returns-in-1-clause-rise g c =
    rises c.args.parts.now c.parts.inside.zero.amount c.parts.inside.one.amount c.parts.inside.two.amount c.parts.inside.three.amount
    c.parts.inside.four.amount
    c.parts.inside.zero.amount c.step_at.new.part.amount c.parts.inside.two.amount c.parts.inside.three.amount c.parts.inside.four.amount
    c.step_at.result.numbers c.parts.view_is
    (stays _ _ (c.step_at.ensures.only 0 (λ e. omega arith))) c.step_at.ensures.part
    (stays _ _ (c.step_at.ensures.only 2 (λ e. omega arith))) (stays _ _ (c.step_at.ensures.only 3 (λ e. omega arith)))
    (stays _ _ (c.step_at.ensures.only 4 (λ e. omega arith)))

pub returns-in-2-clause-rise : goal.returns-in-2-clause-rise
returns-in-2-clause-rise g c =
    rises c.args.parts.now c.parts-in-2.inside.zero.amount c.parts-in-2.inside.one.amount c.parts-in-2.inside.two.amount
    c.parts-in-2.inside.three.amount c.parts-in-2.inside.four.amount
    c.parts-in-2.inside.zero.amount c.parts-in-2.inside.one.amount c.step_if_there.new.part.amount c.parts-in-2.inside.three.amount
    c.parts-in-2.inside.four.amount c.step_if_there.result.numbers c.parts-in-2.view_is
    (stays _ _ (c.step_if_there.ensures.only 0 (λ e. omega arith))) (stays _ _ (c.step_if_there.ensures.only 1 (λ e. omega arith)))
    c.step_if_there.ensures.part (stays _ _ (c.step_if_there.ensures.only 3 (λ e. omega arith)))
    (stays _ _ (c.step_if_there.ensures.only 4 (λ e. omega arith)))

pub returns-in-3-clause-rise : goal.returns-in-3-clause-rise
returns-in-3-clause-rise g c =
    rises c.args.parts.now c.parts-in-3.inside.zero.amount c.parts-in-3.inside.one.amount c.parts-in-3.inside.two.amount
    c.parts-in-3.inside.three.amount c.parts-in-3.inside.four.amount
    c.parts-in-3.inside.zero.amount c.parts-in-3.inside.one.amount c.parts-in-3.inside.two.amount c.step_if_there-in-3.new.part.amount
    c.parts-in-3.inside.four.amount c.step_if_there-in-3.result.numbers c.parts-in-3.view_is
    (stays _ _ (c.step_if_there-in-3.ensures.only 0 (λ e. omega arith))) (stays _ _
    (c.step_if_there-in-3.ensures.only 1 (λ e. omega arith))) (stays _ _ (c.step_if_there-in-3.ensures.only 2 (λ e. omega arith)))
    c.step_if_there-in-3.ensures.part (stays _ _ (c.step_if_there-in-3.ensures.only 4 (λ e. omega arith)))

pub returns-in-4-clause-rise : goal.returns-in-4-clause-rise
returns-in-4-clause-rise g c =
    rises c.args.parts.now c.parts-in-4.inside.zero.amount c.parts-in-4.inside.one.amount c.parts-in-4.inside.two.amount
    c.parts-in-4.inside.three.amount c.parts-in-4.inside.four.amount
    c.parts-in-4.inside.zero.amount c.parts-in-4.inside.one.amount c.parts-in-4.inside.two.amount c.parts-in-4.inside.three.amount
    c.step_if_there-in-4.new.part.amount c.step_if_there-in-4.result.numbers c.parts-in-4.view_is
    (stays _ _ (c.step_if_there-in-4.ensures.only 0 (λ e. omega arith))) (stays _ _
    (c.step_if_there-in-4.ensures.only 1 (λ e. omega arith))) (stays _ _ (c.step_if_there-in-4.ensures.only 2 (λ e. omega arith)))
    (stays _ _ (c.step_if_there-in-4.ensures.only 3 (λ e. omega arith))) c.step_if_there-in-4.ensures.part
