use Rattle.std.proofs.Common.{rules}
use Rattle.scsi_sense.proofs.sense.Sense.of.Goals as goal

pub returns-in-MediumSourceElementEmpty : goal.returns-in-MediumSourceElementEmpty
returns-in-MediumSourceElementEmpty c = search rules
