use Rattle.std.proofs.Common.{arith}
use Rattle.lun_router.proofs.PartsRising.{rises, stays}
use Rattle.lun_router.proofs.all_locks.UnitLocks.move_two.Goals as goal

pub returns-in-1-eq2-clause-rise : goal.returns-in-1-eq2-clause-rise
returns-in-1-eq2-clause-rise g c =
    rises c.args.parts.now c.parts.inside.zero.amount c.parts.inside.one.amount c.parts.inside.two.amount c.parts.inside.three.amount c.parts.inside.four.amount
    c.move_with_two.new.part.amount c.move_with_two.new.low_part.amount c.move_with_two.new.high_part.amount c.parts.inside.three.amount c.parts.inside.four.amount c.move_with_two.result.numbers c.parts.view_is
    c.move_with_two.ensures.part c.move_with_two.ensures.low_part c.move_with_two.ensures.high_part (stays _ _ (c.move_with_two.ensures.only 3 (λ e. omega arith) (λ e. omega arith) (λ e. omega arith))) (stays _ _ (c.move_with_two.ensures.only 4 (λ e. omega arith) (λ e. omega arith) (λ e. omega arith)))

pub returns-in-1-eq3-clause-rise : goal.returns-in-1-eq3-clause-rise
returns-in-1-eq3-clause-rise g c =
    rises c.args.parts.now c.parts.inside.zero.amount c.parts.inside.one.amount c.parts.inside.two.amount c.parts.inside.three.amount c.parts.inside.four.amount
    c.move_with_two-in-1-eq3.new.part.amount c.move_with_two-in-1-eq3.new.low_part.amount c.parts.inside.two.amount c.move_with_two-in-1-eq3.new.high_part.amount c.parts.inside.four.amount c.move_with_two-in-1-eq3.result.numbers c.parts.view_is
    c.move_with_two-in-1-eq3.ensures.part c.move_with_two-in-1-eq3.ensures.low_part (stays _ _ (c.move_with_two-in-1-eq3.ensures.only 2 (λ e. omega arith) (λ e. omega arith) (λ e. omega arith))) c.move_with_two-in-1-eq3.ensures.high_part (stays _ _ (c.move_with_two-in-1-eq3.ensures.only 4 (λ e. omega arith) (λ e. omega arith) (λ e. omega arith)))

pub returns-in-1-eq4-clause-rise : goal.returns-in-1-eq4-clause-rise
returns-in-1-eq4-clause-rise g c =
    rises c.args.parts.now c.parts.inside.zero.amount c.parts.inside.one.amount c.parts.inside.two.amount c.parts.inside.three.amount c.parts.inside.four.amount
    c.move_with_two-in-1-eq4.new.part.amount c.move_with_two-in-1-eq4.new.low_part.amount c.parts.inside.two.amount c.parts.inside.three.amount c.move_with_two-in-1-eq4.new.high_part.amount c.move_with_two-in-1-eq4.result.numbers c.parts.view_is
    c.move_with_two-in-1-eq4.ensures.part c.move_with_two-in-1-eq4.ensures.low_part (stays _ _ (c.move_with_two-in-1-eq4.ensures.only 2 (λ e. omega arith) (λ e. omega arith) (λ e. omega arith))) (stays _ _ (c.move_with_two-in-1-eq4.ensures.only 3 (λ e. omega arith) (λ e. omega arith) (λ e. omega arith))) c.move_with_two-in-1-eq4.ensures.high_part

pub returns-in-2-eq3-clause-rise : goal.returns-in-2-eq3-clause-rise
returns-in-2-eq3-clause-rise g c =
    rises c.args.parts.now c.parts.inside.zero.amount c.parts.inside.one.amount c.parts.inside.two.amount c.parts.inside.three.amount c.parts.inside.four.amount
    c.move_with_two-in-2-eq3.new.part.amount c.parts.inside.one.amount c.move_with_two-in-2-eq3.new.low_part.amount c.move_with_two-in-2-eq3.new.high_part.amount c.parts.inside.four.amount c.move_with_two-in-2-eq3.result.numbers c.parts.view_is
    c.move_with_two-in-2-eq3.ensures.part (stays _ _ (c.move_with_two-in-2-eq3.ensures.only 1 (λ e. omega arith) (λ e. omega arith) (λ e. omega arith))) c.move_with_two-in-2-eq3.ensures.low_part c.move_with_two-in-2-eq3.ensures.high_part (stays _ _ (c.move_with_two-in-2-eq3.ensures.only 4 (λ e. omega arith) (λ e. omega arith) (λ e. omega arith)))

pub returns-in-2-eq4-clause-rise : goal.returns-in-2-eq4-clause-rise
returns-in-2-eq4-clause-rise g c =
    rises c.args.parts.now c.parts.inside.zero.amount c.parts.inside.one.amount c.parts.inside.two.amount c.parts.inside.three.amount c.parts.inside.four.amount
    c.move_with_two-in-2-eq4.new.part.amount c.parts.inside.one.amount c.move_with_two-in-2-eq4.new.low_part.amount c.parts.inside.three.amount c.move_with_two-in-2-eq4.new.high_part.amount c.move_with_two-in-2-eq4.result.numbers c.parts.view_is
    c.move_with_two-in-2-eq4.ensures.part (stays _ _ (c.move_with_two-in-2-eq4.ensures.only 1 (λ e. omega arith) (λ e. omega arith) (λ e. omega arith))) c.move_with_two-in-2-eq4.ensures.low_part (stays _ _ (c.move_with_two-in-2-eq4.ensures.only 3 (λ e. omega arith) (λ e. omega arith) (λ e. omega arith))) c.move_with_two-in-2-eq4.ensures.high_part

pub returns-in-3-eq4-clause-rise : goal.returns-in-3-eq4-clause-rise
returns-in-3-eq4-clause-rise g c =
    rises c.args.parts.now c.parts.inside.zero.amount c.parts.inside.one.amount c.parts.inside.two.amount c.parts.inside.three.amount c.parts.inside.four.amount
    c.move_with_two-in-3-eq4.new.part.amount c.parts.inside.one.amount c.parts.inside.two.amount c.move_with_two-in-3-eq4.new.low_part.amount c.move_with_two-in-3-eq4.new.high_part.amount c.move_with_two-in-3-eq4.result.numbers c.parts.view_is
    c.move_with_two-in-3-eq4.ensures.part (stays _ _ (c.move_with_two-in-3-eq4.ensures.only 1 (λ e. omega arith) (λ e. omega arith) (λ e. omega arith))) (stays _ _ (c.move_with_two-in-3-eq4.ensures.only 2 (λ e. omega arith) (λ e. omega arith) (λ e. omega arith))) c.move_with_two-in-3-eq4.ensures.low_part c.move_with_two-in-3-eq4.ensures.high_part
