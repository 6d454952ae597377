use Rattle.std.proofs.Common.{arith}
use Rattle.std.proofs.lemmas.Grind.{elements}
use Rattle.iscsi_pdu.proofs.fields.u48_at.Goals as goal

pub returns : goal.returns
returns c = grind (arith, elements)
