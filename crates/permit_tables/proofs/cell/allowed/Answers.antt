use Rattle.std.proofs.Common.{arith}
use Rattle.permit_tables.proofs.WordLaws.{bit_is_allowed}
use Rattle.permit_tables.proofs.cell.allowed.Goals as goal

pub returns : goal.returns
returns c = grind (arith, bit_is_allowed)
