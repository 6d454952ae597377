-- What is known of an observer that looked at a unit under its lock.
use Rattle.std.specs.Prelude.{◌≡◌, ℕ}
use Rattle.scsi_cdb.specs.declared.profile.Profile.{Profile}
use Rattle.logical_unit.specs.UnitView.{UnitView}
use Rattle.lun_router.specs.Units.{IsAt}

-- some unit of the number and the profile was lent to it, and it knows of that what it says
abbrev pub WasShown : {O : Type 0} → (sees : O → UnitView → O → Type 0) → Profile → (lun : ℕ) → (old new : O) → Type 0
WasShown sees p lun old new = (u : UnitView) × (IsAt p lun u × sees old u new)
