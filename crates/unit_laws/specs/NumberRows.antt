-- Worked rows: units whose numbers of records run out, and volumes that are put in and taken out of them where no host asks.
use Rattle.std.specs.Prelude.{◌≡◌, ℕ, ◌+◌, true, false, List, [], ◌∷◌, replicate, Option, Some, None}
use Rattle.tape_medium.specs.declared.volume.Volume.{Volume}
use Rattle.tape_medium.specs.declared.volume.VolumeTag.{VolumeTag}
use Rattle.tape_medium.specs.Elements.{empty_elements}
use Rattle.device_server.specs.HostChanger.{spec_changer}
use Rattle.device_server.specs.View.{DeviceView, Changer}
use Rattle.judgement.specs.Replies.{busy}
use Rattle.judgement.specs.declared.reply.Reply.{Reply}
use Rattle.logical_unit.specs.declared.medium_fault.MediumFault.{MediumFault}
use Rattle.logical_unit.specs.declared.medium_fault.MediumFault.TheVariants.{NotADrive, Prevented, Empty, Full, Busy}
use Rattle.logical_unit.specs.UnitView.{UnitView, last_number}
use Rattle.logical_unit.specs.Step.{made, HasNumber, Executes, LosesAs, Resets}
use Rattle.logical_unit.specs.Medium.{taken_out, put_in, IsRefusal}
use Rattle.unit_laws.specs.Rows.{a, volume, drive_of}

-- a drive, and a changer, whose first record is numbered after a last number
abbrev pub drive_after : (bay : Option Volume) → (last : ℕ) → UnitView
drive_after None last = made (drive_of None false) 1 2 last
drive_after (Some v) last = made (drive_of (Some v) true) 1 2 last

abbrev pub changer_after : (last : ℕ) → UnitView
changer_after last = made (Changer (spec_changer (empty_elements 1 0 1))) 0 2 last

abbrev pub the_last : ℕ
the_last = 18446744073709551615

abbrev pub before_the_last : ℕ
before_the_last = 18446744073709551614

-- the last number is given, and behind it whatever needs one is BUSY: a volume neither goes in nor comes out
pub record NumbersRunOut (tag : VolumeTag) : Type 0 where
  pub given : HasNumber (drive_after None before_the_last) × (last_number (drive_after None before_the_last) + 1 ≡ the_last)
  pub none_left : HasNumber (drive_after None the_last) → ⊥
  pub goes_in : (fault : MediumFault) → IsRefusal (put_in (drive_after None the_last) (volume tag)) fault → fault ≡ Busy
  pub comes_out : (fault : MediumFault) → IsRefusal (taken_out (drive_after (Some (volume tag)) the_last)) fault → fault ≡ Busy
  pub empty : IsRefusal (taken_out (drive_after None the_last)) Empty
  pub command : (new : UnitView × Reply) → Executes (changer_after the_last) a (replicate 6 0) [] new → new ≡ (changer_after the_last, busy)
  pub loss : (new : UnitView × Option ℕ) → LosesAs true (changer_after the_last) a new → ⊥
  pub reset : (new : UnitView × ℕ) → Resets (changer_after the_last) new → ⊥
