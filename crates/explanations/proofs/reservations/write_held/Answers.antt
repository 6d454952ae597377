use Rattle.std.proofs.Common.{arith}
use Rattle.std.proofs.lemmas.Grind.{common_steps}
use Rattle.explanations.proofs.reservations.write_held.Goals as goal

pub returns-else-held-gt-SCOPE_AND_TYPE : goal.returns-else-held-gt-SCOPE_AND_TYPE
returns-else-held-gt-SCOPE_AND_TYPE c = grind (arith, common_steps)

pub returns-in_ok-write_type : goal.returns-in_ok-write_type
returns-in_ok-write_type c = grind (arith, common_steps)
