use Rattle.std.proofs.Common.{arith, sym}
use Rattle.tape_medium.proofs.PlaceLemmas.{home_after-prior}
use Rattle.tape_medium.proofs.index.home_before.Goals as goal

pub returns-else-at-eq0 : goal.returns-else-at-eq0
returns-else-at-eq0 c = sym (home_after-prior 0 _ _ _ (omega arith) c.requires)
