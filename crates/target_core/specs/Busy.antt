-- Why an event at a target is BUSY.
use Rattle.std.specs.Prelude.{◌≡◌, ℕ, zero, suc, List, [], ◌∷◌, slice_get, Option, Some, None}
use Rattle.scsi_nexus.specs.declared.nexus.Nexus.{Nexus}
use Rattle.scsi_sense.specs.declared.status.Status.TheVariants.{Good, Busy}
use Rattle.device_server.specs.View.{commands_of, drives_of}
use Rattle.judgement.specs.declared.reply.Reply.{Reply}
use Rattle.judgement.specs.Replies.{absent_answer}
use Rattle.logical_unit.specs.Move.{OneIsBusyOnlyFor, TwoAreBusyOnlyFor}
use Rattle.logical_unit.specs.Route.{named}
use Rattle.logical_unit.specs.Step.{IsBusyOnlyFor, IsBusyOnlyForRecord}
use Rattle.logical_unit.specs.UnitView.{UnitWithRoom}
use Rattle.target_core.specs.declared.event.Event.{Event}
use Rattle.target_core.specs.declared.event.Event.TheVariants.{Command, Loss, Reset}

-- a MOVE MEDIUM or EXCHANGE MEDIUM at the changer c, with the drives that it names if they are there: as the changer and they have room
abbrev pub MoveIsBusyOnlyFor : UnitWithRoom → Option UnitWithRoom → Nexus → (cdb bytes : List ℕ) → Reply → Type 0
MoveIsBusyOnlyFor c None n cdb bytes r = IsBusyOnlyFor c n cdb bytes r
MoveIsBusyOnlyFor c (Some d) n cdb bytes r = OneIsBusyOnlyFor c d n cdb bytes r

abbrev pub PassIsBusyOnlyFor : UnitWithRoom → (d e : Option UnitWithRoom) → Nexus → (cdb bytes : List ℕ) → Reply → Type 0
PassIsBusyOnlyFor c (Some d) (Some e) n cdb bytes r = TwoAreBusyOnlyFor c d e n cdb bytes r
PassIsBusyOnlyFor c d e n cdb bytes r = IsBusyOnlyFor c n cdb bytes r

-- a command to the changer, by the drives that it names
abbrev pub NamingIsBusyOnlyFor : List UnitWithRoom → UnitWithRoom → List ℕ → Nexus → (cdb bytes : List ℕ) → Reply → Type 0
NamingIsBusyOnlyFor xs c [] n cdb bytes r = IsBusyOnlyFor c n cdb bytes r
NamingIsBusyOnlyFor xs c (drive ∷ []) n cdb bytes r = MoveIsBusyOnlyFor c (slice_get xs drive) n cdb bytes r
NamingIsBusyOnlyFor xs c (low ∷ high ∷ more) n cdb bytes r = PassIsBusyOnlyFor c (slice_get xs low) (slice_get xs high) n cdb bytes r

-- a command to a unit that is there; where there is none, only data take memory
abbrev pub BusyOnlyAt : List UnitWithRoom → ℕ → Option UnitWithRoom → Nexus → (cdb bytes : List ℕ) → Reply → Type 0
BusyOnlyAt xs lun None n cdb bytes r = r.status ≡ Busy → (absent_answer cdb).status ≡ Good
BusyOnlyAt xs zero (Some c) n cdb bytes r = NamingIsBusyOnlyFor xs c (named (commands_of c.unit.device) (drives_of c.unit.device) cdb) n cdb bytes r
BusyOnlyAt xs (suc k) (Some x) n cdb bytes r = IsBusyOnlyFor x n cdb bytes r

abbrev pub CommandIsBusyOnlyFor : List UnitWithRoom → ℕ → Nexus → (cdb bytes : List ℕ) → Reply → Type 0
CommandIsBusyOnlyFor xs lun n cdb bytes r = BusyOnlyAt xs lun (slice_get xs lun) n cdb bytes r

-- a loss or a reset: for its record, where the unit is there; else never
abbrev pub IsBusyOnlyForRecordAt : Option UnitWithRoom → Reply → Type 0
IsBusyOnlyForRecordAt None r = r.status ≡ Busy → ⊥
IsBusyOnlyForRecordAt (Some x) r = IsBusyOnlyForRecord x r

-- one event
abbrev pub EventIsBusyOnlyFor : List UnitWithRoom → Event → Reply → Type 0
EventIsBusyOnlyFor xs (Command n lun cdb bytes) r = CommandIsBusyOnlyFor xs lun n cdb.items bytes.items r
EventIsBusyOnlyFor xs (Loss n lun) r = IsBusyOnlyForRecordAt (slice_get xs lun) r
EventIsBusyOnlyFor xs (Reset lun) r = IsBusyOnlyForRecordAt (slice_get xs lun) r
