-- What the nexuses inside a protected span see of a unit, and what is said of its registrations in the proofs.
use Rattle.std.specs.Prelude.{◌≡◌, ◌≤◌, ◌==◌, T, Bool, true, false, length, Option, Some, None}
use Rattle.std.specs.List.{list_all}
use Rattle.std.specs.FinMap.{is_sorted}
use Rattle.scsi_nexus.specs.declared.nexus.Nexus.{Nexus}
use Rattle.scsi_nexus.specs.Order.{nexus_cmp}
use Rattle.unit_attention.specs.Queues.{slot_of}
use Rattle.permit_tables.specs.declared.res_type.ResType.{ResType}
use Rattle.permit_tables.specs.declared.res_type.ResType.TheVariants as type
use Rattle.pr_core.specs.Table.{IsProper}
use Rattle.pr_core.specs.State.{State, capacity, key, is_registered}
use Rattle.judgement.specs.declared.reply.Reply.{Reply}
use Rattle.judgement.specs.UnitStateView.{UnitStateView}
use Rattle.logical_unit.specs.UnitView.{UnitView}
use Rattle.protected_span.specs.Span.{is_the_holder}

-- what two units keep looks alike to the nexuses inside
pub record Alike (inside : Nexus → Bool) (f g : UnitStateView) : Type 0 where
  pub lun : f.lun ≡ g.lun
  pub units : f.units ≡ g.units
  pub profile : f.profile ≡ g.profile
  pub slots : (n : Nexus) → inside n ≡ true → slot_of f.slots n ≡ slot_of g.slots n
  pub preventers : f.preventers ≡ g.preventers
  pub own : list_all inside f.preventers ≡ true

-- the same answer but for the number of its record, or the same status and sense with any data
pub record SameSense (x y : Reply) : Type 0 where
  pub status : x.status ≡ y.status
  pub sense : x.sense ≡ y.sense

abbrev pub Says : (exact : Bool) → Reply → Reply → Type 0
Says true x y = x ≡ y
Says false x y = SameSense x y

-- keys in order, none of them 0, and no more than there is room for
pub record IsTable (v : State) : Type 0 where
  pub proper : IsProper v.keys
  pub room : length v.keys ≤ capacity

-- h holds Exclusive Access, and has a key
pub record Hold (h : Nexus) (v : State) : Type 0 where
  pub holds : v.reservation ≡ Some (type.Ea, h)
  pub keyed : (key v h == 0) ≡ false

-- at the start of a span of h
pub record Begins (h : Nexus) (u : UnitView) : Type 0 where
  pub table : IsTable u.state.reservations
  pub hold : Hold h u.state.reservations
  pub alone : list_all (is_the_holder h) u.state.preventers ≡ true

-- Exclusive Access of registrants, held by one inside, or of all of them
abbrev pub IsHeldAs : (inside : Nexus → Bool) → ResType → Nexus → Type 0
IsHeldAs inside type.Earo x = inside x ≡ true
IsHeldAs inside type.Eaar x = Unit {0}
IsHeldAs inside t x = ⊥

abbrev pub IsHeldInside : (inside : Nexus → Bool) → Option (ResType × Nexus) → Type 0
IsHeldInside inside None = ⊥
IsHeldInside inside (Some r) = IsHeldAs inside r.0 r.1

-- those inside are the registered nexuses, and have Exclusive Access
pub record IsShared (inside : Nexus → Bool) (v : State) : Type 0 where
  pub held : IsHeldInside inside v.reservation
  pub registered : (n : Nexus) → is_registered v n ≡ inside n

-- slots ascend, and are 128 at most
pub record HasSlots (u : UnitView) : Type 0 where
  pub sorted : T (is_sorted nexus_cmp u.state.slots)
  pub few : length u.state.slots ≤ 128
