use Rattle.std.proofs.Common.{rules}
use Rattle.std.specs.Prelude.{IsTrue}
use Rattle.lun_router.proofs.Accounting.{accounted, accounted_if_there}
use Rattle.lun_router.proofs.library.Library.close.Goals as goal

pub returns-in-Ok-true-clause-changer : goal.returns-in-Ok-true-clause-changer
returns-in-Ok-true-clause-changer g c =
    let yes : IsTrue c.in-Ok-true.field-0 = search rules in
    accounted 0 _ _ _ _ _ _ _ c.histories.ensures.changer (c.in-Ok-true.ensures.changer yes) c.deref.ensures.value c.histories.ensures.changer_sum c.gather.ensures.zero

pub returns-in-Ok-true-clause-first : goal.returns-in-Ok-true-clause-first
returns-in-Ok-true-clause-first g c =
    let yes : IsTrue c.in-Ok-true.field-0 = search rules in
    accounted 1 _ _ _ _ _ _ _ c.histories.ensures.first (c.in-Ok-true.ensures.first yes) c.deref.ensures.value c.histories.ensures.first_sum c.gather.ensures.one

pub returns-in-Ok-true-clause-second : goal.returns-in-Ok-true-clause-second
returns-in-Ok-true-clause-second g c =
    let yes : IsTrue c.in-Ok-true.field-0 = search rules in
    accounted_if_there _ _ _ 2 _ _ _ _ _ _ c.histories.ensures.second (c.in-Ok-true.ensures.second yes) c.deref.ensures.value c.histories.ensures.second_sum c.gather.ensures.two

pub returns-in-Ok-true-clause-third : goal.returns-in-Ok-true-clause-third
returns-in-Ok-true-clause-third g c =
    let yes : IsTrue c.in-Ok-true.field-0 = search rules in
    accounted_if_there _ _ _ 3 _ _ _ _ _ _ c.histories.ensures.third (c.in-Ok-true.ensures.third yes) c.deref.ensures.value c.histories.ensures.third_sum c.gather.ensures.three

pub returns-in-Ok-true-clause-fourth : goal.returns-in-Ok-true-clause-fourth
returns-in-Ok-true-clause-fourth g c =
    let yes : IsTrue c.in-Ok-true.field-0 = search rules in
    accounted_if_there _ _ _ 4 _ _ _ _ _ _ c.histories.ensures.fourth (c.in-Ok-true.ensures.fourth yes) c.deref.ensures.value c.histories.ensures.fourth_sum c.gather.ensures.four

pub returns-in-Ok-true-clause-missing : goal.returns-in-Ok-true-clause-missing
returns-in-Ok-true-clause-missing g c = search rules fits 100
