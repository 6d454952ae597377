use Rattle.std.proofs.lemmas.Grind.{common_steps}
use Rattle.std.proofs.Common.{arith}
use Rattle.target_core.proofs.order.fault_of.Goals as goal

pub returns : goal.returns
returns g c = grind (arith, common_steps)

pub returns-in_default : goal.returns-in_default
returns-in_default g c = grind (arith, common_steps)

pub returns-then-is_empty : goal.returns-then-is_empty
returns-then-is_empty g c = grind (arith, common_steps)

pub returns-then-ne : goal.returns-then-ne
returns-then-ne g c = grind (arith, common_steps)

pub returns-then-not-agree : goal.returns-then-not-agree
returns-then-not-agree g c = grind (arith, common_steps)

pub returns-then-not-are_drives : goal.returns-then-not-are_drives
returns-then-not-are_drives g c = grind (arith, common_steps)
