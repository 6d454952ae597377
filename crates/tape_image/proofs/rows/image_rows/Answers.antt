use Rattle.std.proofs.Common.{refl}
use Rattle.tape_image.specs.Parts.{image_part}
use Rattle.tape_image.specs.Reading.{partial, ended, faulty, gap, object}
use Rattle.tape_image.proofs.rows.image_rows.Goals as goal

pub returns-clause-empty : goal.returns-clause-empty
unfolding image_part
returns-clause-empty c = partial _ _ 4 refl

pub returns-clause-even_mark_odd : goal.returns-clause-even_mark_odd
unfolding image_part
returns-clause-even_mark_odd c = object _ _ _ 10 _ _ refl (object _ _ _ 4 _ _ refl (object _ _ _ 12 _ _ refl (partial _ _ 4 refl)))

pub returns-clause-behind_a_gap : goal.returns-clause-behind_a_gap
unfolding image_part
returns-clause-behind_a_gap c = gap _ _ _ _ refl (object _ _ _ 10 _ _ refl (partial _ _ 4 refl))

pub returns-clause-before_the_end_mark : goal.returns-clause-before_the_end_mark
unfolding image_part
returns-clause-before_the_end_mark c = object _ _ _ 10 _ _ refl (ended _ _ refl)

pub returns-clause-before_a_fault : goal.returns-clause-before_a_fault
unfolding image_part
returns-clause-before_a_fault c = object _ _ _ 10 _ _ refl (faulty _ _ _ refl)
