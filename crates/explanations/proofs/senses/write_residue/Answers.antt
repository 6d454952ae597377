use Rattle.std.proofs.Common.{arith}
use Rattle.std.proofs.lemmas.Grind.{elements}
use Rattle.explanations.proofs.senses.write_residue.Goals as goal

pub returns-else-information-lt-FIRST_NEGATIVE : goal.returns-else-information-lt-FIRST_NEGATIVE
returns-else-information-lt-FIRST_NEGATIVE c = grind (arith, elements)

pub returns-then-information-lt-FIRST_NEGATIVE : goal.returns-then-information-lt-FIRST_NEGATIVE
returns-then-information-lt-FIRST_NEGATIVE c = grind (arith, elements)
