-- The codes of the statuses (SAM-5, "Status codes").
use Rattle.std.specs.Prelude.{ℕ}
use Rattle.scsi_sense.specs.declared.status.Status.{Status}
use Rattle.scsi_sense.specs.declared.status.Status.TheVariants.{Good, CheckCondition, Busy, ReservationConflict}

abbrev pub status_code : Status → ℕ
status_code Good = 0x00
status_code CheckCondition = 0x02
status_code Busy = 0x08
status_code ReservationConflict = 0x18
