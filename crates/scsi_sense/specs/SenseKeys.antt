-- The sense keys of the conditions, and their codes (SPC-4, "Sense key and additional sense code definitions").
use Rattle.std.specs.Prelude.{◌≡◌, ℕ, Option, MatchOption}
use Rattle.scsi_sense.specs.Conditions.{no_sense, not_ready, hardware_error, illegal_request, unit_attention, data_protect, blank_check, volume_overflow}
use Rattle.scsi_sense.specs.declared.sense_key.SenseKey.{SenseKey}
use Rattle.scsi_sense.specs.declared.sense_key.SenseKey.TheVariants.{NoSense, NotReady, HardwareError, IllegalRequest, UnitAttention, DataProtect, BlankCheck, VolumeOverflow}

abbrev pub key_code : SenseKey → ℕ
key_code NoSense = no_sense
key_code NotReady = not_ready
key_code HardwareError = hardware_error
key_code IllegalRequest = illegal_request
key_code UnitAttention = unit_attention
key_code DataProtect = data_protect
key_code BlankCheck = blank_check
key_code VolumeOverflow = volume_overflow

-- the key that has this code, or none where no key has it
abbrev pub IsKeyOf : ℕ → Option SenseKey → Type 0
IsKeyOf code found = MatchOption found ((k : SenseKey) → ¬ (key_code k ≡ code)) (λ k. key_code k ≡ code)

-- a code is that of one key at most
abbrev pub OneKeyAtMost : Type 0
OneKeyAtMost = (code : ℕ) (a b : Option SenseKey) → IsKeyOf code a → IsKeyOf code b → a ≡ b
