-- Whether a command was carried out, by how it ended.
use Rattle.std.specs.Prelude.{Bool, true, false, Option, Some, None}
use Rattle.scsi_sense.specs.Conditions.{has_codes_of}
use Rattle.scsi_sense.specs.declared.condition.Condition.TheVariants.{EarlyWarning}
use Rattle.scsi_sense.specs.declared.sense.Sense.{Sense}
use Rattle.scsi_sense.specs.declared.status.Status.{Status}
use Rattle.scsi_sense.specs.declared.status.Status.TheVariants.{Good, CheckCondition}

abbrev pub is_early_warning : Option Sense → Bool
is_early_warning None = false
is_early_warning (Some sense) = has_codes_of sense EarlyWarning

-- one that ended GOOD, and a write that ended at early warning, of which all is written (SSC-4, "Early-warning")
abbrev pub is_carried_out : Status → Option Sense → Bool
is_carried_out Good sense = true
is_carried_out CheckCondition sense = is_early_warning sense
is_carried_out status sense = false
