-- What contracts see of a unit.
use Rattle.std.specs.Prelude.{ℕ, ◌+◌, List, length, map}
use Rattle.device_server.specs.View.{DeviceView}
use Rattle.audit_log.specs.declared.record.Record.{Record}
use Rattle.judgement.specs.UnitStateView.{UnitStateView}

-- what records are read from: what was kept before the first of them, and the last number that was used then
pub record Base : Type 0 where
  pub state : UnitStateView
  pub last : ℕ

pub record UnitView : Type 0 where
  pub device : DeviceView
  pub state : UnitStateView
  pub base : Base
  -- one for each event since the base, oldest first
  pub records : List Record

-- a unit, and for how many records more it has room
pub record UnitWithRoom : Type 0 where
  pub unit : UnitView
  pub room : ℕ

-- units without their room
abbrev pub units_of : List UnitWithRoom → List UnitView
units_of us = map (λ u. u.unit) us

-- a unit without its device, and for how many records more there is room
pub record RecordedUnitView : Type 0 where
  pub state : UnitStateView
  pub base : Base
  pub records : List Record
  pub room : ℕ

-- the unit of a device
abbrev pub unit_of : DeviceView → RecordedUnitView → UnitView
unit_of device s = record { device = device; state = s.state; base = s.base; records = s.records }

abbrev pub unit_with_room : DeviceView → RecordedUnitView → UnitWithRoom
unit_with_room device s = record { unit = unit_of device s; room = s.room }

-- the last number that was used
abbrev pub last_number : UnitView → ℕ
last_number u = u.base.last + length u.records

abbrev pub last_in : RecordedUnitView → ℕ
last_in s = s.base.last + length s.records

-- the same unit with another device
abbrev pub with_device : UnitWithRoom → DeviceView → UnitWithRoom
with_device x device = record x { unit = record x.unit { device = device } }
