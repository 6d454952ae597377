-- What one call does at the units under their locks is a step of a target that has these units: a run of one event. So each law of a target's runs
-- speaks of each call.
use Rattle.std.specs.Prelude.{◌≡◌, ℕ, suc, List, [], ◌∷◌, slice_get, slice_set, Some}
use Rattle.std.specs.Global.{Vec}
use Rattle.arrayvec.specs.ArrayVec.{ArrayVec}
use Rattle.scsi_nexus.specs.declared.nexus.Nexus.{Nexus}
use Rattle.device_server.specs.View.{commands_of, drives_of}
use Rattle.judgement.specs.declared.reply.Reply.{Reply}
use Rattle.logical_unit.specs.Move.{TwoDrives, MovesOne, MovesTwo}
use Rattle.logical_unit.specs.Route.{named}
use Rattle.logical_unit.specs.Step.{Executes, IsLost, IsReset}
use Rattle.logical_unit.specs.UnitView.{UnitView}
use Rattle.target_core.specs.declared.event.Event.TheVariants.{Command, Loss, Reset}
use Rattle.target_core.specs.Run.{Runs}

pub record CallsAreSteps : Type 0 where
  -- a command to a drive, as `Kept::step` carries it out
  pub at_drive : (us : List UnitView) (k : ℕ) (u v : UnitView) (n : Nexus) (cdb : ArrayVec ℕ) (bytes : Vec ℕ) (r : Reply)
      → slice_get us (suc k) ≡ Some u → Executes u n cdb.items bytes.items (v, r)
      → Runs us (Command n (suc k) cdb bytes ∷ []) (r ∷ []) (slice_set us (suc k) v)
  -- one to the changer that names no drive
  pub at_changer : (c v : UnitView) (ds : List UnitView) (n : Nexus) (cdb : ArrayVec ℕ) (bytes : Vec ℕ) (r : Reply)
      → named (commands_of c.device) (drives_of c.device) cdb.items ≡ [] → Executes c n cdb.items bytes.items (v, r)
      → Runs (c ∷ ds) (Command n 0 cdb bytes ∷ []) (r ∷ []) (v ∷ ds)
  -- a move that names a drive, as `move_kept_one` carries it out
  pub with_one : (c v d e : UnitView) (ds : List UnitView) (k : ℕ) (n : Nexus) (cdb : ArrayVec ℕ) (bytes : Vec ℕ) (r : Reply)
      → named (commands_of c.device) (drives_of c.device) cdb.items ≡ suc k ∷ [] → slice_get ds k ≡ Some d → MovesOne c d n cdb.items bytes.items ((v, r), e)
      → Runs (c ∷ ds) (Command n 0 cdb bytes ∷ []) (r ∷ []) (v ∷ slice_set ds k e)
  -- and one that names two, as `move_kept_two` does
  pub with_two : (c v : UnitView) (ds : List UnitView) (low high : ℕ) (was is : TwoDrives) (n : Nexus) (cdb : ArrayVec ℕ) (bytes : Vec ℕ) (r : Reply)
      → named (commands_of c.device) (drives_of c.device) cdb.items ≡ suc low ∷ suc high ∷ [] → slice_get ds low ≡ Some was.low → slice_get ds high ≡ Some was.high
      → MovesTwo c was n cdb.items bytes.items ((v, r), is)
      → Runs (c ∷ ds) (Command n 0 cdb bytes ∷ []) (r ∷ []) (v ∷ slice_set (slice_set ds low is.low) high is.high)
  -- the loss of a nexus, and a reset
  pub lost : (us : List UnitView) (lun : ℕ) (u v : UnitView) (n : Nexus) (r : Reply)
      → slice_get us lun ≡ Some u → IsLost u n (v, r) → Runs us (Loss n lun ∷ []) (r ∷ []) (slice_set us lun v)
  pub was_reset : (us : List UnitView) (lun : ℕ) (u v : UnitView) (r : Reply)
      → slice_get us lun ≡ Some u → IsReset u (v, r) → Runs us (Reset lun ∷ []) (r ∷ []) (slice_set us lun v)
