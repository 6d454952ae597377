use Rattle.std.proofs.Common.{arith}
use Rattle.lun_router.proofs.PartsRising.{rises, stays}
use Rattle.lun_router.proofs.all_locks.UnitLocks.move_one.Goals as goal

pub returns-in-1-clause-rise : goal.returns-in-1-clause-rise
returns-in-1-clause-rise g c =
    rises c.args.parts.now c.parts.inside.zero.amount c.parts.inside.one.amount c.parts.inside.two.amount c.parts.inside.three.amount c.parts.inside.four.amount
    c.move_with_one.new.part.amount c.move_with_one.new.drive_part.amount c.parts.inside.two.amount c.parts.inside.three.amount c.parts.inside.four.amount c.move_with_one.result.numbers c.parts.view_is
    c.move_with_one.ensures.part c.move_with_one.ensures.drive_part (stays _ _ (c.move_with_one.ensures.only 2 (λ e. omega arith) (λ e. omega arith))) (stays _ _ (c.move_with_one.ensures.only 3 (λ e. omega arith) (λ e. omega arith))) (stays _ _ (c.move_with_one.ensures.only 4 (λ e. omega arith) (λ e. omega arith)))

pub returns-in-2-clause-rise : goal.returns-in-2-clause-rise
returns-in-2-clause-rise g c =
    rises c.args.parts.now c.parts.inside.zero.amount c.parts.inside.one.amount c.parts.inside.two.amount c.parts.inside.three.amount c.parts.inside.four.amount
    c.move_with_one-in-2.new.part.amount c.parts.inside.one.amount c.move_with_one-in-2.new.drive_part.amount c.parts.inside.three.amount c.parts.inside.four.amount c.move_with_one-in-2.result.numbers c.parts.view_is
    c.move_with_one-in-2.ensures.part (stays _ _ (c.move_with_one-in-2.ensures.only 1 (λ e. omega arith) (λ e. omega arith))) c.move_with_one-in-2.ensures.drive_part (stays _ _ (c.move_with_one-in-2.ensures.only 3 (λ e. omega arith) (λ e. omega arith))) (stays _ _ (c.move_with_one-in-2.ensures.only 4 (λ e. omega arith) (λ e. omega arith)))

pub returns-in-3-clause-rise : goal.returns-in-3-clause-rise
returns-in-3-clause-rise g c =
    rises c.args.parts.now c.parts.inside.zero.amount c.parts.inside.one.amount c.parts.inside.two.amount c.parts.inside.three.amount c.parts.inside.four.amount
    c.move_with_one-in-3.new.part.amount c.parts.inside.one.amount c.parts.inside.two.amount c.move_with_one-in-3.new.drive_part.amount c.parts.inside.four.amount c.move_with_one-in-3.result.numbers c.parts.view_is
    c.move_with_one-in-3.ensures.part (stays _ _ (c.move_with_one-in-3.ensures.only 1 (λ e. omega arith) (λ e. omega arith))) (stays _ _ (c.move_with_one-in-3.ensures.only 2 (λ e. omega arith) (λ e. omega arith))) c.move_with_one-in-3.ensures.drive_part (stays _ _ (c.move_with_one-in-3.ensures.only 4 (λ e. omega arith) (λ e. omega arith)))

pub returns-in-4-clause-rise : goal.returns-in-4-clause-rise
returns-in-4-clause-rise g c =
    rises c.args.parts.now c.parts.inside.zero.amount c.parts.inside.one.amount c.parts.inside.two.amount c.parts.inside.three.amount c.parts.inside.four.amount
    c.move_with_one-in-4.new.part.amount c.parts.inside.one.amount c.parts.inside.two.amount c.parts.inside.three.amount c.move_with_one-in-4.new.drive_part.amount c.move_with_one-in-4.result.numbers c.parts.view_is
    c.move_with_one-in-4.ensures.part (stays _ _ (c.move_with_one-in-4.ensures.only 1 (λ e. omega arith) (λ e. omega arith))) (stays _ _ (c.move_with_one-in-4.ensures.only 2 (λ e. omega arith) (λ e. omega arith))) (stays _ _ (c.move_with_one-in-4.ensures.only 3 (λ e. omega arith) (λ e. omega arith))) c.move_with_one-in-4.ensures.drive_part
