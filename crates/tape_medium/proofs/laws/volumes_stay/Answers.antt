use Rattle.tape_medium.proofs.VolumeLemmas.{takes_one, adds_one, keeps_all, notes_move_nothing}
use Rattle.tape_medium.proofs.laws.volumes_stay.Goals as goal

pub returns-clause-takes : goal.returns-clause-takes
returns-clause-takes c = takes_one

pub returns-clause-adds : goal.returns-clause-adds
returns-clause-adds c = adds_one

pub returns-clause-moves : goal.returns-clause-moves
returns-clause-moves c = keeps_all

pub returns-clause-notes : goal.returns-clause-notes
returns-clause-notes c = notes_move_nothing
