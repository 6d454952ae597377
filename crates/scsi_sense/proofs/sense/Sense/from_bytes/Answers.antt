use Rattle.std.proofs.Common.{rules}
use Rattle.scsi_sense.proofs.sense.Sense.from_bytes.Goals as goal

pub returns-then-bytes-lt-SENSE_LENGTH : goal.returns-then-bytes-lt-SENSE_LENGTH
returns-then-bytes-lt-SENSE_LENGTH c = search rules
