-- The early-warning zone of a tape in the hosts' profile (SSC-4, "Early-warning"): where it begins, and how a write that is carried out there ends.
use Rattle.std.specs.Prelude.{ℕ, ◌-◌, ◌/◌, ◌==◌, min, max, nat_lt, not, Bool, true, false, ◌&&◌, ◌||◌, [], if◌then◌else◌}
use Rattle.scsi_cdb.specs.declared.profile.Profile.TheVariants.{Hosts}
use Rattle.scsi_sense.specs.declared.condition.Condition.TheVariants.{EarlyWarning}
use Rattle.scsi_sense.specs.declared.sense.Sense.{Sense}
use Rattle.scsi_sense.specs.declared.status.Status.{Status}
use Rattle.scsi_sense.specs.declared.status.Status.TheVariants.{Good}
use Rattle.tape_medium.specs.Limits.{most_objects}
use Rattle.tape_medium.specs.Tape.{bytes_in, behind}
use Rattle.tape_medium.specs.TapeView.{TapeView}
use Rattle.device_server.specs.declared.outcome.Outcome.{Outcome}
use Rattle.device_server.specs.Outcomes.{ended}
use Rattle.device_server.specs.Senses.{informed}

-- how many bytes of blocks before the end of a tape it takes (profile): an eighth, and of larger tapes 4 MiB, then a 128th, and no more than 256 MiB
abbrev pub zone : (capacity : ℕ) → ℕ
zone capacity = min (capacity / 8) (min (max (capacity / 128) 4194304) 268435456)

-- a position with so many bytes of blocks and so many objects before it is in it where more bytes lie before it than before the zone, or where
-- fewer than 4,096 objects are left (profile)
abbrev pub is_near_the_end : (capacity bytes objects : ℕ) → Bool
is_near_the_end capacity bytes objects = nat_lt (capacity - zone capacity) bytes || nat_lt (most_objects Hosts - objects) 4096

abbrev pub is_in_zone : TapeView → Bool
is_in_zone t = is_near_the_end t.capacity (bytes_in (behind t)) t.position

-- all was written
abbrev pub early_warning : Sense
early_warning = record (informed EarlyWarning 0) { eom = true }

-- of a write of so much
abbrev pub is_warned : (told : ℕ) → Status → TapeView → Bool
is_warned told Good t = not (told == 0) && is_in_zone t
is_warned told status t = false

abbrev pub warned : (told : ℕ) → TapeView × Outcome → TapeView × Outcome
warned told step = if is_warned told step.1.status step.0 then (step.0, ended early_warning []) else step
