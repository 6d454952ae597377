use Rattle.tape_medium.proofs.ChangeLemmas.{unchanged-stay}
use Rattle.tape_medium.proofs.laws.unchanged_objects_stay_in_front.Goals as goal

pub returns-clause-stay : goal.returns-clause-stay
returns-clause-stay c = unchanged-stay
