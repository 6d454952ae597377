use Rattle.std.proofs.Common.{arith, sym}
use Rattle.tape_medium.proofs.PlaceLemmas.{end_after-prior}
use Rattle.tape_medium.proofs.index.end_before.Goals as goal

pub returns-else-at-eq0 : goal.returns-else-at-eq0
returns-else-at-eq0 c = sym (end_after-prior 0 _ _ _ (omega arith) c.requires)
