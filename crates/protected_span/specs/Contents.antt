-- What a command leaves, at a target, of a nexus that may not change what is in the unit.
use Rattle.std.specs.Prelude.{◌≡◌, ◌≢◌, ℕ, List, slice_get, Some}
use Rattle.std.specs.Global.{Vec}
use Rattle.arrayvec.specs.ArrayVec.{ArrayVec}
use Rattle.scsi_nexus.specs.declared.nexus.Nexus.{Nexus}
use Rattle.judgement.specs.declared.reply.Reply.{Reply}
use Rattle.logical_unit.specs.Contents.{SameContents, MayNotChange}
use Rattle.logical_unit.specs.UnitView.{UnitView}
use Rattle.target_core.specs.declared.event.Event.TheVariants.{Command}
use Rattle.target_core.specs.Run.{Steps}

-- a command leaves what is in the unit that it came to, and each other unit whole
pub record ChangesNothing (us ms : List UnitView) (at : ℕ) (u : UnitView) : Type 0 where
  pub unit : UnitView
  pub place : slice_get ms at ≡ Some unit
  pub contents : SameContents u.device unit.device
  pub others : (k : ℕ) → at ≢ k → slice_get ms k ≡ slice_get us k

-- a command of a nexus that may not change it, at a target, where it may be a MOVE MEDIUM
abbrev pub OutsiderChangesNothing : Type 0
OutsiderChangesNothing =
    (us ms : List UnitView) (at : ℕ) (u : UnitView) (n : Nexus) (cdb : ArrayVec ℕ) (bytes : Vec ℕ) (r : Reply) → slice_get us at ≡ Some u → MayNotChange u.state.reservations n
    → Steps us (Command n at cdb bytes) (ms, r) → ChangesNothing us ms at u
