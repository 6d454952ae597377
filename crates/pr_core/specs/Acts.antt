-- The reservation acts that a unit accepts, as its history has them beside their senders (SPC-4, "PERSISTENT RESERVE OUT command").
use Rattle.std.specs.Prelude.{ℕ, Bool, List}
use Rattle.scsi_nexus.specs.declared.nexus.Nexus.{Nexus}
use Rattle.permit_tables.specs.declared.res_type.ResType.{ResType}
use Rattle.pr_core.specs.declared.act.ReservationAct.{ReservationAct}
use Rattle.pr_core.specs.declared.act.ReservationAct.TheVariants as shown

pub data Act : Type 0 where
  -- the new key, 0 for none, of these nexuses
  Register : ℕ → List Nexus → Act
  Reserve : ResType → Act
  -- the byte of scope and type
  Release : ℕ → Act
  Clear : Act
  -- the preempted key, and the byte of scope and type
  Preempt : ℕ → ℕ → Act
  -- the key, the destination, and whether the sender is unregistered
  Move : ℕ → Nexus → Bool → Act

-- the act that a value of the enum stands for
abbrev pub act_shown : ReservationAct → Act
act_shown (shown.Register k targets) = Register k targets.now
act_shown (shown.Reserve t) = Reserve t
act_shown (shown.Release code) = Release code
act_shown shown.Clear = Clear
act_shown (shown.Preempt k code) = Preempt k code
act_shown (shown.Move k d unreg) = Move k d unreg
