use Rattle.std.proofs.Common.{arith}
use Rattle.lun_router.proofs.PartsRising.{rises, stays}
use Rattle.lun_router.proofs.all_locks.UnitLocks.lose.Goals as goal

pub returns-in-0-clause-rise : goal.returns-in-0-clause-rise
returns-in-0-clause-rise g c =
    rises c.args.parts.now c.parts.inside.zero.amount c.parts.inside.one.amount c.parts.inside.two.amount c.parts.inside.three.amount c.parts.inside.four.amount
    c.lose_at.new.part.amount c.parts.inside.one.amount c.parts.inside.two.amount c.parts.inside.three.amount c.parts.inside.four.amount c.lose_at.result.numbers c.parts.view_is
    c.lose_at.ensures.part (stays _ _ (c.lose_at.ensures.only 1 (λ e. omega arith))) (stays _ _ (c.lose_at.ensures.only 2 (λ e. omega arith))) (stays _ _ (c.lose_at.ensures.only 3 (λ e. omega arith))) (stays _ _ (c.lose_at.ensures.only 4 (λ e. omega arith)))

pub returns-in-1-clause-rise : goal.returns-in-1-clause-rise
returns-in-1-clause-rise g c =
    rises c.args.parts.now c.parts.inside.zero.amount c.parts.inside.one.amount c.parts.inside.two.amount c.parts.inside.three.amount c.parts.inside.four.amount
    c.parts.inside.zero.amount c.lose_at-in-1.new.part.amount c.parts.inside.two.amount c.parts.inside.three.amount c.parts.inside.four.amount c.lose_at-in-1.result.numbers c.parts.view_is
    (stays _ _ (c.lose_at-in-1.ensures.only 0 (λ e. omega arith))) c.lose_at-in-1.ensures.part (stays _ _ (c.lose_at-in-1.ensures.only 2 (λ e. omega arith))) (stays _ _ (c.lose_at-in-1.ensures.only 3 (λ e. omega arith))) (stays _ _ (c.lose_at-in-1.ensures.only 4 (λ e. omega arith)))

pub returns-in-2-clause-rise : goal.returns-in-2-clause-rise
returns-in-2-clause-rise g c =
    rises c.args.parts.now c.parts.inside.zero.amount c.parts.inside.one.amount c.parts.inside.two.amount c.parts.inside.three.amount c.parts.inside.four.amount
    c.parts.inside.zero.amount c.parts.inside.one.amount c.lose_if_there.new.part.amount c.parts.inside.three.amount c.parts.inside.four.amount c.lose_if_there.result.numbers c.parts.view_is
    (stays _ _ (c.lose_if_there.ensures.only 0 (λ e. omega arith))) (stays _ _ (c.lose_if_there.ensures.only 1 (λ e. omega arith))) c.lose_if_there.ensures.part (stays _ _ (c.lose_if_there.ensures.only 3 (λ e. omega arith))) (stays _ _ (c.lose_if_there.ensures.only 4 (λ e. omega arith)))

pub returns-in-3-clause-rise : goal.returns-in-3-clause-rise
returns-in-3-clause-rise g c =
    rises c.args.parts.now c.parts.inside.zero.amount c.parts.inside.one.amount c.parts.inside.two.amount c.parts.inside.three.amount c.parts.inside.four.amount
    c.parts.inside.zero.amount c.parts.inside.one.amount c.parts.inside.two.amount c.lose_if_there-in-3.new.part.amount c.parts.inside.four.amount c.lose_if_there-in-3.result.numbers c.parts.view_is
    (stays _ _ (c.lose_if_there-in-3.ensures.only 0 (λ e. omega arith))) (stays _ _ (c.lose_if_there-in-3.ensures.only 1 (λ e. omega arith))) (stays _ _ (c.lose_if_there-in-3.ensures.only 2 (λ e. omega arith))) c.lose_if_there-in-3.ensures.part (stays _ _ (c.lose_if_there-in-3.ensures.only 4 (λ e. omega arith)))

pub returns-in-4-clause-rise : goal.returns-in-4-clause-rise
returns-in-4-clause-rise g c =
    rises c.args.parts.now c.parts.inside.zero.amount c.parts.inside.one.amount c.parts.inside.two.amount c.parts.inside.three.amount c.parts.inside.four.amount
    c.parts.inside.zero.amount c.parts.inside.one.amount c.parts.inside.two.amount c.parts.inside.three.amount c.lose_if_there-in-4.new.part.amount c.lose_if_there-in-4.result.numbers c.parts.view_is
    (stays _ _ (c.lose_if_there-in-4.ensures.only 0 (λ e. omega arith))) (stays _ _ (c.lose_if_there-in-4.ensures.only 1 (λ e. omega arith))) (stays _ _ (c.lose_if_there-in-4.ensures.only 2 (λ e. omega arith))) (stays _ _ (c.lose_if_there-in-4.ensures.only 3 (λ e. omega arith))) c.lose_if_there-in-4.ensures.part
