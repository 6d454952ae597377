-- A drive with two blocks, of 01h and of 02h, and a filemark, as it is and with two objects settled.
use Rattle.std.specs.Prelude.{◌≡◌, [], ◌∷◌, false}
use Rattle.scsi_cdb.specs.declared.request.Request.TheVariants.{Read}
use Rattle.tape_medium.specs.declared.volume.VolumeTag.{VolumeTag}
use Rattle.device_server.specs.Outcomes.{done}
use Rattle.device_server.specs.Settled.{SameButSettled}
use Rattle.device_server.specs.SettledRows.{drive}
use Rattle.device_server.specs.View.{performed}
use Rattle.settled_laws.specs.Alike.{StepAlike, outcomes}

pub record AttendedDrive (tag : VolumeTag) : Type 0 where
  pub same : SameButSettled (drive tag 0 0) (drive tag 0 2)
  pub elsewhere : SameButSettled (drive tag 0 0) (drive tag 1 2) → ⊥
  pub read : performed (drive tag 0 0) (Read false false 1) [] ≡ (drive tag 1 0, done (1 ∷ []))
  pub read_settled : performed (drive tag 0 2) (Read false false 1) [] ≡ (drive tag 1 2, done (1 ∷ []))
  pub both : outcomes (drive tag 0 2) ((Read false false 1, []) ∷ (Read false false 1, []) ∷ []) ≡ done (1 ∷ []) ∷ done (2 ∷ []) ∷ []
  pub another_place : StepAlike (drive tag 1 0, done (1 ∷ [])) (drive tag 0 2, done (1 ∷ [])) → ⊥
  pub another_answer : StepAlike (drive tag 1 0, done (1 ∷ [])) (drive tag 1 2, done (2 ∷ [])) → ⊥
