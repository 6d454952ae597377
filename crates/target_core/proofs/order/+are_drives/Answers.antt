use Rattle.std.proofs.Common.{arith}
use Rattle.std.proofs.lemmas.Grind.{common_steps}
use Rattle.target_core.proofs.order.+are_drives.Goals as goal

pub returns-then-units-count : goal.returns-then-units-count
returns-then-units-count g c = grind (arith, common_steps)

pub returns-in-empty : goal.returns-in-empty
returns-in-empty g c = grind (arith, common_steps)
