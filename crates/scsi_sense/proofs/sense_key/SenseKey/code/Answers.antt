use Rattle.std.proofs.Common.{rules}
use Rattle.scsi_sense.proofs.sense_key.SenseKey.code.Goals as goal

pub returns-in-BlankCheck : goal.returns-in-BlankCheck
returns-in-BlankCheck c = search rules
