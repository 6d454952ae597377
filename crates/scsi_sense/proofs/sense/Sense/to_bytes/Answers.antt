use Rattle.std.proofs.lemmas.Grind.{common_steps}
use Rattle.std.proofs.Common.{arith}
use Rattle.scsi_sense.proofs.sense.Sense.to_bytes.Goals as goal

pub returns : goal.returns
returns c = grind (arith, common_steps)
