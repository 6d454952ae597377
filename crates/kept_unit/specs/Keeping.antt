-- A unit that is kept, beside the total of its book, the numbers that were handed over, and the last record number that it had used when it was
-- put there.
use Rattle.std.specs.Prelude.{◌≡◌, ℕ, ◌+◌, ◌<◌, ◌^◌, List}
use Rattle.settled_numbers.specs.declared.number_range.NumberRange.{NumberRange}
use Rattle.scsi_cdb.specs.declared.profile.Profile.{Profile}
use Rattle.scsi_cdb.specs.Kinds.{kind_at}
use Rattle.device_server.specs.View.{kind_of, profile_of, drives_of}
use Rattle.logical_unit.specs.UnitView.{UnitView, last_number}

pub record KeptValue : Type 0 where
  pub unit : UnitView
  pub total : ℕ
  pub handed_over : List NumberRange

-- the unit is that of the number, of this profile, and the book's total is how many numbers it has used since
pub record IsKept (p : Profile) (lun : ℕ) (unit : UnitView) (total was since : ℕ) : Type 0 where
  pub kind : kind_of unit.device ≡ kind_at lun
  pub profile : profile_of unit.device ≡ p
  pub place : unit.state.lun ≡ lun
  pub few : drives_of unit.device < 2 ^ 8
  pub last : last_number unit ≡ since + total
  pub first : was ≡ since
