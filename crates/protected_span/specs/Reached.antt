-- A unit as it can be at some moment after power on.
use Rattle.std.specs.Prelude.{◌≡◌, ◌≤◌, ℕ, T, List, length, slice_get, Option, Some}
use Rattle.std.specs.FinMap.{is_sorted}
use Rattle.scsi_nexus.specs.declared.nexus.Nexus.{Nexus}
use Rattle.scsi_nexus.specs.Order.{nexus_cmp}
use Rattle.unit_attention.specs.Queues.{slot_limit}
use Rattle.permit_tables.specs.declared.out_params.OutParams.{OutParams}
use Rattle.unit_laws.specs.Reservations.{commanded}
use Rattle.audit_log.specs.declared.record.Record.{Record}
use Rattle.device_server.specs.View.{DeviceView}
use Rattle.judgement.specs.declared.reply.Reply.{Reply}
use Rattle.logical_unit.specs.Step.{made, drained}
use Rattle.logical_unit.specs.UnitView.{UnitView}
use Rattle.target_core.specs.declared.event.Event.{Event}
use Rattle.target_core.specs.Run.{Runs, Drains}

-- its registrations, its reservation and its generation are what some PERSISTENT RESERVE OUT commands leave that came since power on, and
-- its slots ascend and are no more than there is room for
pub record IsReached (u : UnitView) : Type 0 where
  pub commands : List (Nexus × OutParams)
  pub reservations : u.state.reservations ≡ commanded commands
  pub sorted : T (is_sorted nexus_cmp u.state.slots)
  pub few : length u.state.slots ≤ slot_limit

abbrev pub AreReached : List UnitView → Type 0
AreReached us = (lun : ℕ) (u : UnitView) → slice_get us lun ≡ Some u → IsReached u

-- a unit is so at power on, and after each event of each run: no condition of a span asks for what a unit may lack
abbrev pub PowerOnIsReached : Type 0
PowerOnIsReached = (device : DeviceView) (lun units last : ℕ) → IsReached (made device lun units last)

-- so it is once its records are handed out
abbrev pub DrainedIsReached : Type 0
DrainedIsReached = (u : UnitView) → IsReached u → IsReached (drained u)

abbrev pub RunsReach : Type 0
RunsReach = (us vs : List UnitView) (es : List Event) (rs : List Reply) → AreReached us → Runs us es rs vs → AreReached vs

-- UNITS THAT A TARGET CAN HAVE: at power on, and whatever events and drained records, in any order, then make of them

-- a unit at power on
pub record IsMade (u : UnitView) : Type 0 where
  pub device : DeviceView
  pub lun : ℕ
  pub units : ℕ
  pub last : ℕ
  pub is : u ≡ made device lun units last

abbrev pub AreMade : List UnitView → Type 0
AreMade us = (lun : ℕ) (u : UnitView) → slice_get us lun ≡ Some u → IsMade u

pub data CameAbout : List UnitView → Type 0 where
  began : (us : List UnitView) → AreMade us → CameAbout us
  ran : (us vs : List UnitView) (es : List Event) (rs : List Reply) → CameAbout us → Runs us es rs vs → CameAbout vs
  drained_one : (us vs : List UnitView) (lun : ℕ) (records : Option (List Record)) → CameAbout us → Drains us lun (vs, records) → CameAbout vs

-- all of these are such: a span may begin with any of them
abbrev pub AllAreReached : Type 0
AllAreReached = (us : List UnitView) → CameAbout us → AreReached us
