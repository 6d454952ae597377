-- What a target does at each event, and runs of events.
use Rattle.std.specs.Prelude.{◌≡◌, ℕ, zero, suc, List, [], ◌∷◌, slice_get, slice_set, Option, Some, None}
use Rattle.scsi_nexus.specs.declared.nexus.Nexus.{Nexus}
use Rattle.scsi_sense.specs.declared.condition.Condition.TheVariants.{LogicalUnitNotSupported}
use Rattle.audit_log.specs.declared.record.Record.{Record}
use Rattle.device_server.specs.View.{commands_of, drives_of}
use Rattle.judgement.specs.declared.reply.Reply.{Reply}
use Rattle.logical_unit.specs.Legal.{IsTrail}
use Rattle.judgement.specs.Replies.{AnswersAbsent, check}
use Rattle.logical_unit.specs.Step.{Executes, IsLost, IsReset, drained}
use Rattle.logical_unit.specs.Move.{TwoDrives, MovesOne, MovesTwo}
use Rattle.logical_unit.specs.Route.{named}
use Rattle.logical_unit.specs.UnitView.{UnitView}
use Rattle.target_core.specs.declared.event.Event.{Event}
use Rattle.target_core.specs.declared.event.Event.TheVariants.{Command, Loss, Reset}

-- the unit at a place does one step, and the others stay as they were
pub record AtUnit (us : List UnitView) (lun : ℕ) (Does : UnitView × Reply → Type 0) (new : List UnitView × Reply) : Type 0 where
  pub unit : UnitView
  pub step : Does (unit, new.1)
  pub units : new.0 ≡ slice_set us lun unit

-- the changer does one step with a drive, or with two, and the others stay as they were
pub record AtDrive (us : List UnitView) (drive : ℕ) (Does : (UnitView × Reply) × UnitView → Type 0) (new : List UnitView × Reply) : Type 0 where
  pub changer : UnitView
  pub other : UnitView
  pub step : Does ((changer, new.1), other)
  pub units : new.0 ≡ slice_set (slice_set us 0 changer) drive other

pub record AtDrives (us : List UnitView) (low high : ℕ) (Does : (UnitView × Reply) × TwoDrives → Type 0) (new : List UnitView × Reply) : Type 0 where
  pub changer : UnitView
  pub drives : TwoDrives
  pub step : Does ((changer, new.1), drives)
  pub units : new.0 ≡ slice_set (slice_set (slice_set us 0 changer) low drives.low) high drives.high

-- a MOVE MEDIUM or EXCHANGE MEDIUM at the changer c with the drives that it names, if they are there; without them the changer answers alone
abbrev pub MovesWith : List UnitView → UnitView → ℕ → Option UnitView → Nexus → (cdb bytes : List ℕ) → List UnitView × Reply → Type 0
MovesWith us c drive None n cdb bytes new = AtUnit us 0 (Executes c n cdb bytes) new
MovesWith us c drive (Some d) n cdb bytes new = AtDrive us drive (MovesOne c d n cdb bytes) new

abbrev pub MovesBetween : List UnitView → UnitView → (low high : ℕ) → (d e : Option UnitView) → Nexus → (cdb bytes : List ℕ) → List UnitView × Reply → Type 0
MovesBetween us c low high (Some d) (Some e) n cdb bytes new = AtDrives us low high (MovesTwo c (record { low = d; high = e }) n cdb bytes) new
MovesBetween us c low high d e n cdb bytes new = AtUnit us 0 (Executes c n cdb bytes) new

-- a command to the changer, by the drives that it names: a MOVE MEDIUM one or two, an EXCHANGE MEDIUM one, any other none
abbrev pub CommandsNaming : List UnitView → UnitView → List ℕ → Nexus → (cdb bytes : List ℕ) → List UnitView × Reply → Type 0
CommandsNaming us c [] n cdb bytes new = AtUnit us 0 (Executes c n cdb bytes) new
CommandsNaming us c (drive ∷ []) n cdb bytes new = MovesWith us c drive (slice_get us drive) n cdb bytes new
CommandsNaming us c (low ∷ high ∷ more) n cdb bytes new = MovesBetween us c low high (slice_get us low) (slice_get us high) n cdb bytes new

-- the drives that a CDB names at the changer of these units
abbrev pub NamesAt : List UnitView → (cdb names : List ℕ) → Type 0
NamesAt [] cdb names = ⊥
NamesAt (c ∷ ds) cdb names = named (commands_of c.device) (drives_of c.device) cdb ≡ names

-- a command to a unit that is there, or to none
abbrev pub CommandsAt : List UnitView → ℕ → Option UnitView → Nexus → (cdb bytes : List ℕ) → List UnitView × Reply → Type 0
CommandsAt us lun None n cdb bytes new = (new.0 ≡ us) × AnswersAbsent cdb new.1
CommandsAt us zero (Some c) n cdb bytes new = CommandsNaming us c (named (commands_of c.device) (drives_of c.device) cdb) n cdb bytes new
CommandsAt us (suc k) (Some u) n cdb bytes new = AtUnit us (suc k) (Executes u n cdb bytes) new

abbrev pub Commands : List UnitView → ℕ → Nexus → (cdb bytes : List ℕ) → List UnitView × Reply → Type 0
Commands us lun n cdb bytes new = CommandsAt us lun (slice_get us lun) n cdb bytes new

abbrev pub unsupported : Reply
unsupported = check LogicalUnitNotSupported

-- an I_T nexus loss, and a reset, at a unit that is there, or at none
abbrev pub LosesAt : List UnitView → ℕ → Option UnitView → Nexus → List UnitView × Reply → Type 0
LosesAt us lun None n new = new ≡ (us, unsupported)
LosesAt us lun (Some u) n new = AtUnit us lun (IsLost u n) new

abbrev pub ResetsAt : List UnitView → ℕ → Option UnitView → List UnitView × Reply → Type 0
ResetsAt us lun None new = new ≡ (us, unsupported)
ResetsAt us lun (Some u) new = AtUnit us lun (IsReset u) new

-- one event
abbrev pub Steps : List UnitView → Event → List UnitView × Reply → Type 0
Steps us (Command n lun cdb bytes) new = Commands us lun n cdb.items bytes.items new
Steps us (Loss n lun) new = LosesAt us lun (slice_get us lun) n new
Steps us (Reset lun) new = ResetsAt us lun (slice_get us lun) new

-- events one after another, each with its reply
abbrev pub Runs : List UnitView → List Event → List Reply → List UnitView → Type 0
Runs us [] [] vs = vs ≡ us
Runs us (e ∷ es) (r ∷ rs) vs = (mid : List UnitView) × Steps us e (mid, r) × Runs mid es rs vs
Runs us [] (r ∷ rs) vs = ⊥
Runs us (e ∷ es) [] vs = ⊥

-- the records of a unit are handed out, a legal trail that gives what the unit keeps, and the others stay as they were; of no unit there
-- are none
abbrev pub DrainsAt : List UnitView → ℕ → Option UnitView → List UnitView × Option (List Record) → Type 0
DrainsAt us lun None new = new ≡ (us, None)
DrainsAt us lun (Some u) new = (new ≡ (slice_set us lun (drained u), Some u.records)) × IsTrail u.base u.records u.state

abbrev pub Drains : List UnitView → ℕ → List UnitView × Option (List Record) → Type 0
Drains us lun new = DrainsAt us lun (slice_get us lun) new
