use Rattle.std.proofs.Common.{rules}
use Rattle.scsi_sense.proofs.status.Status.code.Goals as goal

pub returns-in-ReservationConflict : goal.returns-in-ReservationConflict
returns-in-ReservationConflict c = search rules
