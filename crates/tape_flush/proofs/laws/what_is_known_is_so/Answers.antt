use Rattle.tape_flush.proofs.Knowing.{known_call}
use Rattle.tape_flush.proofs.laws.what_is_known_is_so.Goals as goal

pub returns : goal.returns
returns c known call file new is allowed done = known_call known call file new is allowed done
