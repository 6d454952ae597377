use Rattle.tape_flush.proofs.CopyLemmas.{follows}
use Rattle.tape_flush.proofs.laws.images_follow_tapes.Goals as goal

pub returns : goal.returns
returns c = follows c.unchanged_objects_stay_in_front.ensures.stay
