-- The units under locks: how many there are, and which.
use Rattle.std.specs.Prelude.{◌≡◌, ℕ, ◌≤◌, ◌<◌, ◌^◌, nat_lt, Option, is_some}
use Rattle.device_server.specs.View.{kind_of, profile_of, drives_of}
use Rattle.logical_unit.specs.UnitView.{UnitView}
use Rattle.scsi_cdb.specs.declared.profile.Profile.{Profile}
use Rattle.scsi_cdb.specs.Kinds.{kind_at}

-- how many units there are
pub record LocksValue : Type 0 where
  pub units : ℕ

-- a changer and a drive are there, and further drives by their count
pub record HasUnits {A B C : Type 0} (units : ℕ) (two : Option A) (three : Option B) (four : Option C) : Type 0 where
  pub some : 2 ≤ units
  pub few : units ≤ 5
  pub second : is_some two ≡ nat_lt 2 units
  pub third : is_some three ≡ nat_lt 3 units
  pub fourth : is_some four ≡ nat_lt 4 units

-- a unit of that number, of a profile
pub record IsAt (p : Profile) (lun : ℕ) (u : UnitView) : Type 0 where
  pub kind : kind_of u.device ≡ kind_at lun
  pub profile : profile_of u.device ≡ p
  pub place : u.state.lun ≡ lun
  pub few : drives_of u.device < 2 ^ 8
