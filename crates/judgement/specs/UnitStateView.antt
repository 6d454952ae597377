-- What a unit keeps beside its device and its records.
use Rattle.std.specs.Prelude.{ℕ, List}
use Rattle.scsi_cdb.specs.declared.profile.Profile.{Profile}
use Rattle.scsi_nexus.specs.declared.nexus.Nexus.{Nexus}
use Rattle.unit_attention.specs.Queues.{Slots}
use Rattle.pr_core.specs.State.{State}

pub record UnitStateView : Type 0 where
  -- its logical unit number, and how many units the target has
  pub lun : ℕ
  pub units : ℕ
  -- the profile that these units are of
  pub profile : Profile
  -- the registrations, the reservation and the generation
  pub reservations : State
  -- the nexuses that had contact, each with what waits to be reported
  pub slots : Slots
  -- the nexuses that prevent the removal of media
  pub preventers : List Nexus
