-- The sense data of a tape drive's own ends (SSC-4, "Sense data"): INFORMATION tells what is left to do.
use Rattle.std.specs.Prelude.{ℕ, ◌+◌, ◌-◌, ◌%◌, ◌^◌, true}
use Rattle.scsi_sense.specs.declared.condition.Condition.{Condition}
use Rattle.scsi_sense.specs.declared.condition.Condition.TheVariants.{NoAdditionalSenseInformation, FilemarkDetected, BeginningOfMediumDetected, EndOfDataDetected, EndOfMediumDetected}
use Rattle.scsi_sense.specs.declared.sense.Sense.{Sense}
use Rattle.scsi_sense.specs.Conditions.{sense_for}

-- a condition with INFORMATION
abbrev pub informed : Condition → ℕ → Sense
informed condition left = record (sense_for condition) { valid = true; information = left }

-- a filemark was met
abbrev pub at_mark : ℕ → Sense
at_mark left = record (informed FilemarkDetected left) { filemark = true }

-- the end of data was met
abbrev pub at_end_of_data : ℕ → Sense
at_end_of_data left = informed EndOfDataDetected left

-- the beginning of the tape was met
abbrev pub at_beginning : ℕ → Sense
at_beginning left = record (informed BeginningOfMediumDetected left) { eom = true }

-- the tape is full
abbrev pub past_the_end : ℕ → Sense
past_the_end left = record (informed EndOfMediumDetected left) { eom = true }

-- a block of another length was met
abbrev pub of_other_length : ℕ → Sense
of_other_length left = record (informed NoAdditionalSenseInformation left) { ili = true }

-- a difference in 32 bits, as two's complement
abbrev pub residue : (asked had : ℕ) → ℕ
residue asked had = (asked + 2 ^ 32 - had) % 2 ^ 32
